-- What the digests of two masks say about what they cover.
use Rattle.std.proofs.Common.{◌≡◌, ◌≢◌, ◌↔◌, ◌⊎◌, ℕ, ◌==◌, Bool, true, List, [], ◌∷◌, length, get_or}
use Rattle.std.proofs.Common.{min, ◌-◌, ◌^◌, flat_map, All, Contains, ℤ, pos, ◌-ℤ◌, inl, inr, refl, sym, ◌∙◌, ap}
use Rattle.std.proofs.Common.{subst, arith}
use Rattle.std.proofs.lemmas.Bool.{cases_Bool}
use Rattle.std.proofs.lemmas.List.{append_cancel_left}
use Rattle.std.proofs.lemmas.List.Elements.{All-nil, All-cons, All-head, All-tail}
use Rattle.hex.specs.Hex.{IsBytes}
use Rattle.sha2.specs.Sha256.{sha256}
use Rattle.lvl_grid.specs.declared.point.Square.{Square}
use Rattle.lvl_names.specs.declared.layer.Layer.{Layer}
use Rattle.lvl_names.specs.Layers.{ComesBefore}
use Rattle.lvl_corners.specs.declared.corner.Corner.{Corner}
use Rattle.lvl_corners.specs.declared.mask.DigestedLayer.{DigestedLayer}
use Rattle.lvl_corners.specs.Bytes.{corner_bytes, layer_bytes, layer_head}
use Rattle.lvl_corners.specs.Corners.{change_at, AreCornersOf}
use Rattle.lvl_corners.specs.Masks.{Covers, IsDigested, AreDigests, mask_lines, CoverSame, CornersCollide}
use Rattle.lvl_corners.specs.Masks.{AreDecided}
use Rattle.lvl_corners.proofs.Pairs.{in_first, one_order}
use Rattle.lvl_corners.proofs.Deciding.{one_list, same_squares}
use Rattle.lvl_corners.proofs.Spelling.{corners_decide}
use Rattle.lvl_corners.proofs.Lines.{FitsLine, digested_is, lines_decide, sha_small}

some_near : (c : Square → Bool) (x y : ℤ) → change_at c x y ≢ pos 0 → (s : Square) × (c s ≡ true)
some_near c x y some =
    let right : Square = record { x = x; y = y } in
    let left : Square = record { x = x -ℤ pos 1; y = y } in
    let below : Square = record { x = x; y = y -ℤ pos 1 } in
    let across : Square = record { x = x -ℤ pos 1; y = y -ℤ pos 1 } in
    elim (cases_Bool (c right)) [
      | inl t ↦ (right, t)
      | inr f ↦ elim (cases_Bool (c left)) [
        | inl t ↦ (left, t)
        | inr g ↦ elim (cases_Bool (c below)) [
          | inl t ↦ (below, t)
          | inr h ↦ elim (cases_Bool (c across)) [
            | inl t ↦ (across, t)
            | inr i ↦ absurd (some (rw (f, g, h, i) refl))
          ]
        ]
      ]
    ]

-- a set with a corner has a square
some_covered : (P : Square → Type 0) (ks : List Corner) → AreCornersOf P ks → ks ≢ [] → (s : Square) × P s
some_covered P [] h some = absurd (some refl)
some_covered P (k ∷ ks) h some =
    let changes = (h.corners_are.each k).0 (in_first k ks) in
    let near = some_near h.covered k.x k.y (λ e. changes.0 (changes.1 ∙ e)) in
    (near.0, (h.is_covered near.0).0 near.1)

-- the corners are those of any set with the same squares
pub corners_alike : (P Q : Square → Type 0) (ks : List Corner) → ((s : Square) → P s ↔ Q s) → AreCornersOf P ks
    → AreCornersOf Q ks
corners_alike P Q ks same h = record {
  covered = h.covered;
  is_covered = λ s. (λ t. (same s).0 ((h.is_covered s).0 t), λ q. (h.is_covered s).1 ((same s).1 q));
  bounded = h.bounded;
  corners_are = h.corners_are;
}

-- the digests are those of any mask that covers the same
pub digests_alike : (C D : Covers) (ls : List DigestedLayer) → CoverSame C D → AreDigests C ls → AreDigests D ls
digests_alike C D ls same h = record {
  rising = h.rising;
  fits = h.fits;
  each = λ i d lt.
      let is = h.each i d lt in
      let layer : Layer = (get_or ls i d).layer in
      (is.0, corners_alike (C layer) (D layer) is.0 (same layer) is.1, is.2, is.3);
  all = λ layer s p. h.all layer s ((same layer s).1 p);
}

never_both : (a b : Layer) → ComesBefore a b → ComesBefore b a → ⊥
never_both a b h j = elim h [
  | inl less ↦ elim j [
    | inl more ↦ absurd (omega (arith, less, more))
    | inr also ↦ let same = also.0 in absurd (omega (arith, less, same))
  ]
  | inr less ↦ elim j [
    | inl more ↦ let same = less.0 in absurd (omega (arith, more, same))
    | inr also ↦ let low = less.1 in let high = also.1 in absurd (omega (arith, low, high))
  ]
]

-- a Layer that is digested for one mask is for another that covers the same
digested_too : (C D : Covers) (ls ms : List DigestedLayer) → CoverSame C D → AreDigests C ls → AreDigests D ms
    → (l : DigestedLayer) → Contains ls l
    → Contains ms l
digested_too C D ls ms same h k l (i, lt, at) =
    let ours : IsDigested C l = subst (IsDigested C) at (h.each i l lt) in
    let near = some_covered (C l.layer) ours.0 ours.1 ours.3.0 in
    let found = k.all l.layer near.0 ((same l.layer near.0).0 near.1) in
    let m : DigestedLayer = found.1 in
    let theirs : IsDigested D m = subst (IsDigested D) found.3 (k.each found.0 m found.2) in
    let there : AreCornersOf (D l.layer) theirs.0 =
    subst (λ (layer : Layer). AreCornersOf (D layer) theirs.0) found.4 theirs.1 in
    let corners = one_list (C l.layer) (D l.layer) ours.0 theirs.0 ours.1 there (same l.layer) in
    let layers : l.layer ≡ m.layer = sym found.4 in
    let bytes : Layer → List Corner → List ℕ = λ layer ks. layer_bytes layer.layer layer.datatype ks in
    let is : l ≡ m = digested_is l m (ap (λ (layer : Layer). layer.layer) layers)
    (ap (λ (layer : Layer). layer.datatype) layers)
    (ours.3.1 ∙ (ap (λ (ks : List Corner). min (length ks) (2 ^ 64 - 1)) corners ∙ sym theirs.3.1))
    (ours.3.2 ∙ (ap (λ (layer : Layer). sha256 (bytes layer ours.0)) layers
    ∙ (ap (λ (ks : List Corner). sha256 (bytes m.layer ks)) corners ∙ sym theirs.3.2))) in
    let there : Contains ms m = (found.0, found.2, found.3) in
    subst (Contains ms) (sym is) there

same_digests : (C D : Covers) (ls ms : List DigestedLayer) → AreDigests C ls → AreDigests D ms → CoverSame C D
    → ls ≡ ms
same_digests C D ls ms h k same =
    one_order (λ l m. ComesBefore l.layer m.layer) (λ l m. never_both l.layer m.layer) ls ms h.rising k.rising
    (digested_too C D ls ms same h k)
    (digested_too D C ms ls (λ layer s. ((same layer s).1, (same layer s).0)) k h)

same_or_not : (xs ys : List ℕ) → (xs ≡ ys) ⊎ (xs ≢ ys)
same_or_not [] [] = inl refl
same_or_not [] (y ∷ ys) = inr (λ e. cc)
same_or_not (x ∷ xs) [] = inr (λ e. cc)
same_or_not (x ∷ xs) (y ∷ ys) = elim (cases_Bool (x == y)) [
  | inl t ↦ elim (same_or_not xs ys) [
    | inl rest ↦ let first : x ≡ y = grind (arith, t) in inl (rw (first, rest) refl)
    | inr other ↦ inr (λ e. absurd (other (cc)))
  ]
  | inr f ↦ inr (λ e. let first : x ≡ y = cc in let apart : x ≢ y = grind (arith, f) in absurd (apart first))
]

fit_lines : (C : Covers) (ls : List DigestedLayer) → AreDigests C ls → All FitsLine ls
fit_lines C ls h = λ i d lt.
    let l : DigestedLayer = get_or ls i d in
    let small = h.fits i d lt in
    let is = h.each i d lt in
    let count = is.3.1 in
    record {
      layer = let few = small.0 in omega (arith, few);
      datatype = let few = small.1 in omega (arith, few);
      corners = omega (arith, count);
      bytes = subst (λ bs. IsBytes bs) (sym is.3.2) (sha_small _);
    }

-- what two masks cover on a Layer with one digest is the same, or their corners collide
one_digest : (C D : Covers) (l : DigestedLayer) → IsDigested C l → IsDigested D l
    → ((s : Square) → C l.layer s ↔ D l.layer s) ⊎ CornersCollide C D
one_digest C D l ours theirs =
    let bytes : List Corner → List ℕ = λ ks. layer_bytes l.layer.layer l.layer.datatype ks in
    let hashes : sha256 (bytes ours.0) ≡ sha256 (bytes theirs.0) = sym ours.3.2 ∙ theirs.3.2 in
    elim (same_or_not (bytes ours.0) (bytes theirs.0)) [
      | inl same ↦
          let head : List ℕ = layer_head l.layer.layer l.layer.datatype in
          let corners = corners_decide ours.0 theirs.0 ours.2 theirs.2 (append_cancel_left head
          (flat_map corner_bytes ours.0) (flat_map corner_bytes theirs.0) same) in
          inl (same_squares (C l.layer) (D l.layer) ours.0 theirs.0 ours.1 theirs.1 corners)
      | inr apart ↦ inr (record {
        layer = l.layer;
        ours = ours.0;
        theirs = theirs.0;
        ours_are = ours.1;
        theirs_are = theirs.1;
        collide = (apart, hashes);
      })
    ]

abbrev AlikeOn : Covers → Covers → DigestedLayer → Type 0
AlikeOn C D l = (s : Square) → C l.layer s ↔ D l.layer s

all_alike : (C D : Covers) (ls : List DigestedLayer) → All (IsDigested C) ls → All (IsDigested D) ls
    → All (AlikeOn C D) ls ⊎ CornersCollide C D
all_alike C D [] h k = inl (All-nil (AlikeOn C D))
all_alike C D (l ∷ ls) h k =
    elim (one_digest C D l (All-head (IsDigested C) l ls h) (All-head (IsDigested D) l ls k)) [
      | inr collide ↦ inr collide
      | inl first ↦ elim (all_alike C D ls (All-tail (IsDigested C) l ls h) (All-tail (IsDigested D) l ls k)) [
        | inr collide ↦ inr collide
        | inl rest ↦ inl (All-cons (AlikeOn C D) l ls first rest)
      ]
    ]

-- what is covered on the listed Layers is the same, so all is
covered_too : (C D : Covers) (ls : List DigestedLayer) → AreDigests C ls → All (AlikeOn C D) ls → (layer : Layer)
    → (s : Square) → C layer s → D layer s
covered_too C D ls h alike layer s p =
    let found = h.all layer s p in
    let l : DigestedLayer = found.1 in
    let here : AlikeOn C D l = subst (AlikeOn C D) found.3 (alike found.0 l found.2) in
    subst (λ (of : Layer). C of s → D of s) found.4 (here s).0 p

cover_same : (C D : Covers) (ls : List DigestedLayer) → AreDigests C ls → AreDigests D ls → All (AlikeOn C D) ls
    → CoverSame C D
cover_same C D ls h k alike layer s = (
  covered_too C D ls h alike layer s,
  covered_too D C ls k (λ i d lt q. let both = alike i d lt q in (both.1, both.0)) layer s,
)

pub digests_decide : (C D : Covers) (ls ms : List DigestedLayer) → AreDigests C ls → AreDigests D ms
    → AreDecided C D ls ms
digests_decide C D ls ms h k = record {
  same = same_digests C D ls ms h k;
  decides = λ hashes. elim (same_or_not (mask_lines ls) (mask_lines ms)) [
    | inr apart ↦ inr (inl (apart, hashes))
    | inl same ↦
        let equal : ls ≡ ms = lines_decide ls ms (fit_lines C ls h) (fit_lines D ms k) same in
        let theirs : AreDigests D ls = subst (AreDigests D) (sym equal) k in
        elim (all_alike C D ls h.each theirs.each) [
          | inl alike ↦ inl (cover_same C D ls h theirs alike)
          | inr collide ↦ inr (inr collide)
        ]
  ];
}
