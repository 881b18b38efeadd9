-- The digests of Layers, listed one Layer after another.
use Rattle.std.proofs.Common.{◌≡◌, ℕ, ◌-◌, ◌<◌, ◌≤◌, ◌^◌, List, [], ◌∷◌, ◌++◌, length, take, drop}
use Rattle.std.proofs.Common.{map, get_or, All, AllPairs, Contains, None, Some, refl, sym, ◌∙◌, ap, subst, arith}
use Rattle.std.proofs.Common.{inl, inr, slice_range}
use Rattle.std.proofs.Math.Seq.{get_or-append_seam, take-add}
use Rattle.std.proofs.lemmas.List.{append-nil, append_assoc, get_or_append_left, length-append, map-append}
use Rattle.std.proofs.lemmas.List.{take-append-drop}
use Rattle.std.proofs.lemmas.List.Elements.{All-push, Contains-append_cases}
use Rattle.std.proofs.lemmas.List.Elements.{Contains-append_left, Contains-append_right}
use Rattle.lvl_grid.proofs.Anyone.{Any-head, Any-left, Any-right}
use Rattle.lvl_grid.specs.declared.point.Square.{Square}
use Rattle.lvl_names.specs.declared.layer.Layer.{Layer}
use Rattle.lvl_names.specs.Layers.{ComesBefore}
use Rattle.lvl_cells.specs.Checks.{Settled}
use Rattle.lvl_flat.specs.Flattened.{TopCovers}
use Rattle.lvl_corners.specs.declared.corner.Corner.{Corner}
use Rattle.lvl_corners.specs.declared.digest.LayerDigest.{LayerDigest}
use Rattle.lvl_corners.specs.declared.digest.LayerHash.{LayerHash}
use Rattle.lvl_corners.specs.declared.mask.DigestedLayer.{DigestedLayer}
use Rattle.lvl_corners.specs.Corners.{AreCornersOf, FitsCorner}
use Rattle.lvl_corners.specs.Digests.{HasHashed, IsDigestFor}
use Rattle.lvl_corners.specs.Masks.{Covers, IsDigested}
use Rattle.lvl_corners.specs.Spans.{whole}
use Rattle.lvl_corners.proofs.Deciding.{same_squares}
use Rattle.lvl_corners.proofs.Pairs.{first_or_later, first_pairs, in_first, later_pairs, pairs_of_both}
use Rattle.lvl_corners.proofs.Spans.{corners_in_all, no_corners_in}
use Rattle.lvl.specs.Hashes.{AreDigestsOn, IsHashedTo}
use Rattle.lvl.proofs.Hashing.{hashed_all}

-- the layer and the datatype fit in 32 bits
abbrev pub IsNarrow : Layer → Type 0
IsNarrow l = (l.layer < 2 ^ 32) × (l.datatype < 2 ^ 32)

abbrev IsEarlier : DigestedLayer → DigestedLayer → Type 0
IsEarlier l m = ComesBefore l.layer m.layer

-- a set without corners is empty
nothing_covered : (P : Square → Type 0) → AreCornersOf P [] → (s : Square) → P s → ⊥
nothing_covered P h s p =
    let nothing : AreCornersOf (λ q. ⊥) [] = corners_in_all (λ q. ⊥) [] (no_corners_in (λ q. ⊥) whole (λ q none. none)) in
    (same_squares P (λ q. ⊥) [] [] h nothing refl s).0 p

in_done : (done : List Layer) (layer : Layer) (ls : List DigestedLayer) → All (λ l. Contains done l.layer) ls
    → All (λ l. Contains (done ++ layer ∷ []) l.layer) ls
in_done done layer ls h = λ i d lt. Contains-append_left done (layer ∷ []) (get_or ls i d).layer (h i d lt)

-- a Layer on which nothing is covered isn't listed
skipped : (C : Covers) (done : List Layer) (ls : List DigestedLayer) (layer : Layer) → AreCornersOf (C layer) []
    → AreDigestsOn C done ls → AreDigestsOn C (done ++ layer ∷ []) ls
skipped C done ls layer none h = record {
  rising = h.rising;
  within = in_done done layer ls h.within;
  fits = h.fits;
  each = h.each;
  all = λ other s there p. elim (Contains-append_cases done (layer ∷ []) other there) [
    | inl before ↦ h.all other s before p
    | inr last ↦
        let is : layer ≡ other = only layer other last in
        absurd (nothing_covered (C layer) none s (subst (λ (l : Layer). C l s) (sym is) p))
  ];
}
  where
    only : (layer other : Layer) → Contains (layer ∷ []) other → layer ≡ other
    only layer other there = elim (first_or_later layer [] other there) [
      | inl same ↦ same
      | inr later ↦ let none = later.1 in absurd (omega (arith, none))
    ]

-- a Layer on which a square is covered is listed
added : (C : Covers) (done : List Layer) (ls : List DigestedLayer) (layer : Layer) (d : LayerDigest)
    → ((other : Layer) → Contains done other → ComesBefore other layer) → IsNarrow layer
    → IsDigested C (record { layer = layer; digest = d }) → AreDigestsOn C done ls
    → AreDigestsOn C (done ++ layer ∷ []) (ls ++ record { layer = layer; digest = d } ∷ [])
added C done ls layer d after narrow is h =
    let l : DigestedLayer = record { layer = layer; digest = d } in
    record {
      rising = pairs_of_both IsEarlier ls (l ∷ []) h.rising (λ i j e lt far. absurd (omega (arith, lt, far)))
          (λ m n there last. elim (first_or_later l [] n last) [
            | inl same ↦ subst (IsEarlier m) same (after m.layer (within_at m there))
            | inr later ↦ let none = later.1 in absurd (omega (arith, none))
          ]);
      within = All-push (λ (m : DigestedLayer). Contains (done ++ layer ∷ []) m.layer) ls l
          (in_done done layer ls h.within) (Contains-append_right done (layer ∷ []) layer (in_first layer []));
      fits = All-push (λ (m : DigestedLayer). IsNarrow m.layer) ls l h.fits narrow;
      each = All-push (IsDigested C) ls l h.each is;
      all = λ other s there p. elim (Contains-append_cases done (layer ∷ []) other there) [
        | inl before ↦ Any-left (λ (m : DigestedLayer). m.layer ≡ other) ls (l ∷ []) (h.all other s before p)
        | inr last ↦ Any-right (λ (m : DigestedLayer). m.layer ≡ other) ls (l ∷ []) (elim (first_or_later layer [] other
            last) [
              | inl same ↦ Any-head (λ (m : DigestedLayer). m.layer ≡ other) l [] same
              | inr later ↦ let none = later.1 in absurd (omega (arith, none))
            ])
      ];
    }
  where
    within_at : (m : DigestedLayer) → Contains ls m → Contains done m.layer
    within_at m there = subst (λ (n : DigestedLayer). Contains done n.layer) there.2 (h.within there.0 m there.1)

-- the next Layer, with the digest that it may have
pub listed_none : (C : Covers) (done : List Layer) (ls : List DigestedLayer) (layer : Layer) (ks : List Corner)
    → AreCornersOf (C layer) ks → IsDigestFor layer ks None → AreDigestsOn C done ls
    → AreDigestsOn C (done ++ layer ∷ []) ls
listed_none C done ls layer ks are none h = skipped C done ls layer (subst (AreCornersOf (C layer)) none are) h

pub listed_some : (C : Covers) (done : List Layer) (ls : List DigestedLayer) (layer : Layer) (ks : List Corner)
    → (d : LayerDigest) → ((other : Layer) → Contains done other → ComesBefore other layer) → IsNarrow layer
    → AreCornersOf (C layer) ks → All FitsCorner ks → IsDigestFor layer ks (Some d) → AreDigestsOn C done ls
    → AreDigestsOn C (done ++ layer ∷ []) (ls ++ record { layer = layer; digest = d } ∷ [])
listed_some C done ls layer ks d after narrow are fits is h =
    added C done ls layer d after narrow (ks, are, fits, is) h

-- in a list in order, what comes before an element is less
before_middle : {A : Type 0} (R : A → A → Type 0) (xs zs : List A) (y x : A) → AllPairs R (xs ++ y ∷ zs)
    → Contains xs x → R x y
before_middle R [] zs y x h there = let none = there.1 in absurd (omega (arith, none))
before_middle R (w ∷ xs) zs y x h there = elim (first_or_later w xs x there) [
  | inl same ↦
      subst (λ v. R v y) same (first_pairs R w (xs ++ y ∷ zs) y h (Contains-append_right xs (y ∷ zs) y (in_first y zs)))
  | inr later ↦ before_middle R xs zs y x (later_pairs R w (xs ++ y ∷ zs) h) later
]

front_pairs : {A : Type 0} (R : A → A → Type 0) (xs ys : List A) → AllPairs R (xs ++ ys) → AllPairs R xs
front_pairs R xs ys h = λ i j d lt far.
    let all = length-append xs ys in
    let long : j < length (xs ++ ys) = omega (arith, far, all) in
    let near : i < length xs = omega (arith, lt, far) in
    rw (get_or_append_left xs ys d i near, get_or_append_left xs ys d j far) at (h i j d lt long)

-- a list up to `end` is that up to `start` and then the elements from there
pub up_to_end : {A : Type 0} (xs : List A) (start end : ℕ) → start ≤ end
    → take start xs ++ slice_range xs start end ≡ take end xs
up_to_end xs start end le =
    sym (take-add start (end - start) xs) ∙ ap (λ n. take n xs) (omega (arith, le))

pub pairs_up_to : {A : Type 0} (R : A → A → Type 0) (xs : List A) (end : ℕ) → AllPairs R xs → AllPairs R (take end xs)
pairs_up_to R xs end h = front_pairs R (take end xs) (drop end xs) (subst (AllPairs R) (sym (take-append-drop end xs)) h)

-- the hashes of some Layers, of which the first are listed
pub record AreListing (s : Settled) (layers : List Layer) (begun : List DigestedLayer) (yielded rest : List LayerHash)
    (now : List DigestedLayer) : Type 0 where
  pub hashed : All (IsHashedTo s None) (yielded ++ rest)
  pub layers_are : map (λ (h : LayerHash). h.layer) (yielded ++ rest) ≡ layers
  pub listed : (done : List Layer) → AllPairs ComesBefore (done ++ layers) → AreDigestsOn (TopCovers s) done begun
      → AreDigestsOn (TopCovers s) (done ++ map (λ (h : LayerHash). h.layer) yielded) now

pub listing_none : (s : Settled) (layers : List Layer) (begun : List DigestedLayer) (hashes : List LayerHash)
    → All (IsHashedTo s None) hashes → map (λ (h : LayerHash). h.layer) hashes ≡ layers
    → AreListing s layers begun [] hashes begun
listing_none s layers begun hashes hashed are = record {
  hashed = hashed;
  layers_are = are;
  listed = λ done rising h. subst (λ (ds : List Layer). AreDigestsOn (TopCovers s) ds begun) (sym (append-nil done)) h;
}

all_middle : {A : Type 0} (P : A → Type 0) (xs zs : List A) (y : A) → All P (xs ++ y ∷ zs) → P y
all_middle P xs zs y h =
    subst P (get_or-append_seam xs y zs y) (h (length xs) y (omega (arith, length-append xs (y ∷ zs))))

-- what is known of the next hash
record IsNext (s : Settled) (layers done : List Layer) (yielded : List LayerHash) (h : LayerHash) : Type 0 where
  pub hashed : IsHashedTo s None h
  pub after : (other : Layer) → Contains (done ++ map (λ (h : LayerHash). h.layer) yielded) other
      → ComesBefore other h.layer

is_next : (s : Settled) (layers done : List Layer) (begun now : List DigestedLayer) (yielded rest : List LayerHash)
    → (h : LayerHash) → AreListing s layers begun yielded (h ∷ rest) now → AllPairs ComesBefore (done ++ layers)
    → IsNext s layers done yielded h
is_next s layers done begun now yielded rest h of rising =
    let f : LayerHash → Layer = λ (k : LayerHash). k.layer in
    let parts : map f yielded ++ f h ∷ map f rest ≡ layers = sym (map-append f yielded (h ∷ rest)) ∙ of.layers_are in
    let whole : (done ++ map f yielded) ++ f h ∷ map f rest ≡ done ++ layers =
    append_assoc done (map f yielded) (f h ∷ map f rest) ∙ ap (λ (ls : List Layer). done ++ ls) parts in
    record {
      hashed = all_middle (IsHashedTo s None) yielded rest h of.hashed;
      after = λ other there. before_middle ComesBefore (done ++ map f yielded) (map f rest) (f h) other
          (subst (AllPairs ComesBefore) (sym whole) rising) there;
    }

-- the listing after one more hash
more_listed : (s : Settled) (layers : List Layer) (begun now new : List DigestedLayer) (yielded rest : List LayerHash)
    → (h : LayerHash) → AreListing s layers begun yielded (h ∷ rest) now
    → ((done : List Layer) → AllPairs ComesBefore (done ++ layers)
    → AreDigestsOn (TopCovers s) (done ++ map (λ (h : LayerHash). h.layer) yielded) now
    → AreDigestsOn (TopCovers s) ((done ++ map (λ (h : LayerHash). h.layer) yielded) ++ h.layer ∷ []) new)
    → AreListing s layers begun (yielded ++ h ∷ []) rest new
more_listed s layers begun now new yielded rest h of step =
    let f : LayerHash → Layer = λ (k : LayerHash). k.layer in
    let whole : (yielded ++ h ∷ []) ++ rest ≡ yielded ++ h ∷ rest = append_assoc yielded (h ∷ []) rest in
    record {
      hashed = subst (All (IsHashedTo s None)) (sym whole) of.hashed;
      layers_are = ap (map f) whole ∙ of.layers_are;
      listed = λ done rising first. subst (λ (ls : List Layer). AreDigestsOn (TopCovers s) ls new)
          (append_assoc done (map f yielded) (f h ∷ [])
          ∙ ap (λ (ls : List Layer). done ++ ls) (sym (map-append f yielded (h ∷ []))))
          (step done rising (of.listed done rising first));
    }

pub listing_skips : (s : Settled) (layers : List Layer) (begun now : List DigestedLayer)
    → (yielded before rest : List LayerHash) (h : LayerHash) → before ≡ h ∷ rest
    → ((ks : List Corner) → HasHashed h ks → IsDigestFor h.layer ks None)
    → AreListing s layers begun yielded before now → AreListing s layers begun (yielded ++ h ∷ []) rest now
listing_skips s layers begun now yielded before rest h is finish of' =
    let of = subst (λ (hs : List LayerHash). AreListing s layers begun yielded hs now) is of' in
    more_listed s layers begun now now yielded rest h of (λ done rising so_far.
    let next = is_next s layers done begun now yielded rest h of rising in
    listed_none (TopCovers s) (done ++ map (λ (k : LayerHash). k.layer) yielded) now h.layer next.hashed.corners
    (hashed_all s h next.hashed) (finish next.hashed.corners next.hashed.hashed) so_far)

pub listing_adds : (s : Settled) (layers : List Layer) (begun now new : List DigestedLayer)
    → (yielded before rest : List LayerHash) (h : LayerHash) (d : LayerDigest) → before ≡ h ∷ rest → IsNarrow h.layer
    → ((ks : List Corner) → HasHashed h ks → IsDigestFor h.layer ks (Some d))
    → new ≡ now ++ record { layer = h.layer; digest = d } ∷ []
    → AreListing s layers begun yielded before now → AreListing s layers begun (yielded ++ h ∷ []) rest new
listing_adds s layers begun now new yielded before rest h d is narrow finish more of' =
    let of = subst (λ (hs : List LayerHash). AreListing s layers begun yielded hs now) is of' in
    more_listed s layers begun now new yielded rest h of (λ done rising so_far.
    let next = is_next s layers done begun now yielded rest h of rising in
    let ls : List Layer = done ++ map (λ (k : LayerHash). k.layer) yielded in
    subst (λ (ds : List DigestedLayer). AreDigestsOn (TopCovers s) (ls ++ h.layer ∷ []) ds) (sym more)
    (listed_some (TopCovers s) ls now h.layer next.hashed.corners d next.after narrow (hashed_all s h next.hashed)
    next.hashed.fits (finish next.hashed.corners next.hashed.hashed) so_far))

pub listing_ends : (s : Settled) (layers : List Layer) (begun now : List DigestedLayer)
    → (yielded rest : List LayerHash) → rest ≡ [] → AreListing s layers begun yielded rest now → (done : List Layer)
    → AllPairs ComesBefore (done ++ layers) → AreDigestsOn (TopCovers s) done begun
    → AreDigestsOn (TopCovers s) (done ++ layers) now
listing_ends s layers begun now yielded rest none of done rising first =
    let f : LayerHash → Layer = λ (k : LayerHash). k.layer in
    let all : map f yielded ≡ layers =
    ap (map f) (sym (ap (λ (hs : List LayerHash). yielded ++ hs) none ∙ append-nil yielded)) ∙ of.layers_are in
    subst (λ (ls : List Layer). AreDigestsOn (TopCovers s) (done ++ ls) now) all (of.listed done rising first)
