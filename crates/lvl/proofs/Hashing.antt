-- The hashes of Layers, strip by strip.
use Rattle.std.proofs.Common.{◌≡◌, ◌↔◌, ℕ, suc, ◌+◌, ◌<◌, ◌≤◌, ◌^◌, ◌-◌, true, false, List, [], ◌∷◌, ◌++◌}
use Rattle.std.proofs.Common.{ℤ, pos, negsuc, ◌+ℤ◌, ◌-ℤ◌, ◌<ℤ◌, ◌≤ℤ◌, int_lt, length, take, drop, map, get_or}
use Rattle.std.proofs.Common.{Contains, IsSomeAnd, Option, None, Some, inl, inr, refl, sym, ◌∙◌, ap, subst}
use Rattle.std.proofs.Common.{arith}
use Rattle.std.specs.Int.{saturate_signed, w64}
use Rattle.std.proofs.Math.ListN.{length-map, set}
use Rattle.std.proofs.lemmas.Int.{ints, by_lt_z}
use Rattle.std.proofs.lemmas.Grind.{get_or-set_at}
use Rattle.std.proofs.lemmas.List.{append-nil, get_or-map, get_or-set_other, get_or_default, length-drop, length-set}
use Rattle.std.proofs.lemmas.List.{nil_from_length, take_all}
use Rattle.std.proofs.lemmas.List.Elements.{All-append, Contains-get_or}
use Rattle.lvl_grid.specs.declared.point.Square.{Square}
use Rattle.lvl_grid.specs.declared.point.Window.{Window}
use Rattle.lvl_grid.specs.Clip.{IsInWindow}
use Rattle.lvl_grid.specs.Winding.{SomeCovers}
use Rattle.lvl_names.specs.declared.layer.Layer.{Layer}
use Rattle.lvl_cells.specs.Cells.{PlainCell, Rings}
use Rattle.lvl_cells.specs.Checks.{Settled}
use Rattle.lvl_cells.specs.Coverage.{CellCovers}
use Rattle.lvl_flat.specs.Flattened.{IsFlattenedWithin, IsOfPart, TopCovers}
use Rattle.lvl_flat.specs.Sheet.{PlainSheet}
use Rattle.lvl_flat.specs.Sheets.{rings_on}
use Rattle.lvl_corners.specs.declared.digest.LayerHash.{LayerHash}
use Rattle.lvl_corners.specs.Corners.{AreCornersOf, FitsCorner}
use Rattle.lvl_corners.specs.Digests.{HasHashed}
use Rattle.lvl_corners.specs.Gathered.{IsLowered}
use Rattle.lvl_corners.specs.Parts.{only}
use Rattle.lvl_corners.specs.Spans.{AreCornersIn, is_below}
use Rattle.lvl_corners.proofs.Spans.{AreHalves, corners_in_all, corners_of_halves, corners_same, no_corners_in}
use Rattle.lvl_corners.proofs.Parts.{corners_beyond}
use Rattle.lvl.specs.Hashes.{around, below_at, between, stop_of, up_to, CoversIn, HasAll, IsHashedTo, IsLeft}
use Rattle.lvl.specs.Hashes.{IsPushed, IsPushedOf, IsStep, IsStripPushed}

pub lt_test : (a b : ℤ) → a <ℤ b → int_lt a b ≡ true
lt_test a b h = grind (arith, ints)

pub lt_of : (a b : ℤ) → int_lt a b ≡ true → a <ℤ b
lt_of a b h = grind (arith, ints)

ge_test : (a b : ℤ) → b ≤ℤ a → int_lt a b ≡ false
ge_test a b h = grind (arith, ints)

pub below_some : (end last : ℤ) → end <ℤ last → below_at end last ≡ Some end
below_some end last lt = rw (lt_test end last lt) refl

pub below_none : (end last : ℤ) → last ≤ℤ end → below_at end last ≡ None
below_none end last ge = rw (ge_test end last ge) refl

-- what is left of the end of a strip
pub below_left : (end last z : ℤ) → z <ℤ end → is_below (below_at end last) z ≡ true
below_left end last z lt =
    by_lt_z end last
    (λ more. subst (λ o. is_below o z ≡ true) (sym (below_some end last more)) (lt_test z end lt))
    (λ all. subst (λ o. is_below o z ≡ true) (sym (below_none end last all)) refl)

pub left_below : (end last z : ℤ) → z <ℤ last → is_below (below_at end last) z ≡ true → z <ℤ end
left_below end last z lt h =
    by_lt_z end last
    (λ more. lt_of z end (subst (λ o. is_below o z ≡ true) (below_some end last more) h))
    (λ all. omega (arith, ints, lt, all))

pub saturated_from : (z : ℤ) → z ≤ℤ pos (2 ^ 63 - 1) → z ≤ℤ saturate_signed w64 z
saturated_from (pos n) h = omega (arith, ints, h)
saturated_from (negsuc n) h = omega (arith, ints, h)

-- what is saturated and yet less than another number is unchanged
pub saturated_below : (z v : ℤ) → negsuc (2 ^ 63 - 1) ≤ℤ z → v ≤ℤ pos (2 ^ 63 - 1) → saturate_signed w64 z <ℤ v
    → saturate_signed w64 z ≡ z
saturated_below (pos n) v low high lt = omega (arith, ints, low, high, lt)
saturated_below (negsuc n) v low high lt = omega (arith, ints, low, high, lt)

pub saturated_to : (z v : ℤ) → z ≤ℤ v → negsuc (2 ^ 63 - 1) ≤ℤ v → saturate_signed w64 z ≤ℤ v
saturated_to (pos n) v h low = omega (arith, ints, h, low)
saturated_to (negsuc n) v h low = omega (arith, ints, h, low)

-- the rings of a Layer that was flattened cover what the top covers there in the window
pub covers_within : (s : Settled) (layers : List Layer) (w : Window) (f : List PlainSheet) → IsFlattenedWithin s layers w f
    → (layer : Layer) (q : Square)
    → SomeCovers (rings_on layer f) q ↔ (IsOfPart layers w layer q × TopCovers s layer q)
covers_within s layers w f flat layer q =
    let P : PlainCell Rings → Type 0 = λ top. CellCovers SomeCovers s.cells layer top q in
    let both = flat.covers layer q in (
      λ a. let c = both.0 a in (c.0, subst (λ o. IsSomeAnd o P) (sym flat.is_top) c.1),
      λ b. both.1 (b.0, subst (λ o. IsSomeAnd o P) flat.is_top b.1),
    )

-- nothing is left of a window, and nothing is in it if it has no columns
pub hashed_none : (s : Settled) (w : Window) (h : LayerHash) → HasAll s w → HasHashed h []
    → IsHashedTo s (below_at w.x0 w.x1) h
hashed_none s w h all hashed = record {
  corners = [];
  are = no_corners_in (IsLeft (below_at w.x0 w.x1) (TopCovers s h.layer)) (up_to (below_at w.x0 w.x1)) (λ q left.
      let there = all h.layer q left.1 in
      let low = there.x_from in
      let lt = left_below w.x0 w.x1 q.x there.x_below left.0 in
      absurd (omega (arith, ints, low, lt)));
  fits = λ i d lt. absurd (omega (arith, lt));
  hashed = hashed;
}

-- a number is below the end of a strip exactly if it is below the bound of the span, for what is in the window
abbrev pub Ends : Option ℤ → ℤ → ℤ → Type 0
Ends o end last = (z : ℤ) → z <ℤ last → (is_below o z ≡ true) ↔ (z <ℤ end)

pub ends_below : (end last : ℤ) → Ends (below_at end last) end last
ends_below end last z lt = (left_below end last z lt, below_left end last z)

pub ends_at : (end last : ℤ) → Ends (Some end) end last
ends_at end last z lt = (lt_of z end, lt_test z end)

pub ends_none : (last : ℤ) → Ends None last last
ends_none last z lt = (λ t. lt, λ l. refl)

-- the parts of what a Layer covers that a strip adds to
step_halves : (s : Settled) (w : Window) (layer : Layer) (R : Square → Type 0) (from end : ℤ) (o : Option ℤ)
    → HasAll s w → negsuc (2 ^ 63 - 1) ≤ℤ w.x0 → from ≤ℤ pos (2 ^ 63 - 1) → from ≤ℤ end → Ends o end w.x1
    → ((q : Square) → R q ↔ CoversIn s (around w from end) layer q)
    → AreHalves (IsLeft o (TopCovers s layer)) (IsLeft (Some from) (TopCovers s layer)) R from
step_halves s w layer R from end o all low high further ends covers = record {
  left = λ q. (
    λ l.
        let there = all layer q l.1 in
        let lt = lt_of q.x from l.0 in
        (lt, ((ends q.x there.x_below).1 (omega (arith, ints, lt, further)), l.1)),
    λ both. (lt_test q.x from both.0, both.1.1),
  );
  right = λ q. (
    λ r.
        let c = (covers q).0 r in
        let there = all layer q c.1 in
        let x_from = c.0.x_from in
        let least = saturated_from (from -ℤ pos 1) (omega (arith, ints, high)) in
        (omega (arith, ints, x_from, least), ((ends q.x there.x_below).1 c.0.x_below, c.1)),
    λ both.
        let there = all layer q both.1.1 in
        let x_from = there.x_from in
        let ge = both.0 in
        let x_low : negsuc (2 ^ 63 - 1) ≤ℤ q.x = omega (arith, ints, low, x_from) in
        let columns : IsInWindow (around w from end) q = record {
          x_from = saturated_to (from -ℤ pos 1) q.x ge x_low;
          x_below = (ends q.x there.x_below).0 both.1.0;
          y_from = there.y_from;
          y_below = there.y_below;
        } in
        (covers q).1 (columns, both.1.1),
  );
}

-- the hash has taken the corners of one more strip, which are those of a set R of squares
pub step_of : (s : Settled) (w : Window) (R : Square → Type 0) (old new : LayerHash) (from end : ℤ) (o : Option ℤ)
    → HasAll s w → negsuc (2 ^ 63 - 1) ≤ℤ w.x0 → from ≤ℤ pos (2 ^ 63 - 1) → from ≤ℤ end → Ends o end w.x1
    → is_below o from ≡ true → ((q : Square) → R q ↔ CoversIn s (around w from end) old.layer q)
    → IsPushedOf R (record { from = Some from; below = o }) old new → IsStep s from o old new
step_of s w R old new from end o all low high further ends inner covers p =
    let C : Layer → Square → Type 0 = λ layer. IsLeft o (TopCovers s layer) in
    record {
      layer = p.layer;
      step = λ h. record {
        corners = h.corners ++ p.corners;
        are =
            subst (λ (layer : Layer). AreCornersIn (C layer) (up_to o) (h.corners ++ p.corners)) (sym p.layer)
            (corners_of_halves (C old.layer) (IsLeft (Some from) (TopCovers s old.layer)) R (up_to o) from h.corners
            p.corners (step_halves s w old.layer R from end o all low high further ends covers) inner h.are p.are);
        fits = All-append FitsCorner h.corners p.corners h.fits p.fits;
        hashed = p.hashes h.corners h.hashed;
      };
    }

-- the hash has taken the corners of a strip that was flattened
pub step_flat : (s : Settled) (layers : List Layer) (w : Window) (f : List PlainSheet) (old new : LayerHash)
    → (from end : ℤ) → HasAll s w → negsuc (2 ^ 63 - 1) ≤ℤ w.x0 → from ≤ℤ pos (2 ^ 63 - 1)
    → Contains layers old.layer → from <ℤ end → IsFlattenedWithin s layers (around w from end) f
    → IsPushed f (record { from = Some from; below = below_at end w.x1 }) old new
    → IsStep s from (below_at end w.x1) old new
step_flat s layers w f old new from end all low high listed further flat p =
    let R : Square → Type 0 = SomeCovers (rings_on old.layer f) in
    let covers = covers_within s layers (around w from end) f flat old.layer in
    step_of s w R old new from end (below_at end w.x1) all low high (omega (arith, ints, further))
    (ends_below end w.x1) (below_left end w.x1 from further)
    (λ q. (
      λ r. let c = (covers q).0 r in (c.0.1, c.1),
      λ both. (covers q).1 ((listed, both.0), both.1),
    ))
    (record { layer = p.layer; corners = p.corners; are = p.are; fits = p.fits; hashes = p.hashes })

-- what is lowered from right of x is right of x
pub lowered_further : (x end stop : ℤ) → x <ℤ end → IsLowered x end stop → x <ℤ stop
lowered_further x end stop lt lower = elim lower.1 [
  | inl right ↦ right
  | inr same ↦ omega (arith, ints, lt, same)
]

-- an end that isn't right of x isn't lowered
pub lowered_same : (x stop : ℤ) → IsLowered x x stop → stop ≡ x
lowered_same x stop lower = elim lower.1 [
  | inl right ↦ let le = lower.0 in absurd (omega (arith, ints, right, le))
  | inr same ↦ same
]

pub stop_is_end : (x end : ℤ) → x <ℤ end → stop_of x end ≡ end
stop_is_end x end lt = rw (lt_test x end lt) refl

pub stop_is_next : (x end : ℤ) → end ≤ℤ (x +ℤ pos 1) → stop_of x end ≡ x +ℤ pos 1
stop_is_next x end le =
    by_lt_z x end
    (λ lt. stop_is_end x end lt ∙ omega (arith, ints, lt, le))
    (λ ge. rw (ge_test x end ge) refl)

-- the hash has taken the corners of a strip, at whose end the next one begins
pub step_strip : (s : Settled) (w : Window) (old new : LayerHash) (from end : ℤ) → HasAll s w
    → negsuc (2 ^ 63 - 1) ≤ℤ w.x0 → from ≤ℤ pos (2 ^ 63 - 1) → from <ℤ end → IsStripPushed s w from end old new
    → IsStep s from (Some end) old new
step_strip s w old new from end all low high further p =
    let C : Square → Type 0 = CoversIn s (around w from end) old.layer in
    step_of s w C old new from end (Some end) all low high (omega (arith, ints, further)) (ends_at end w.x1)
    (lt_test from end further) (λ q. (λ h. h, λ h. h))
    (subst (λ z. IsPushedOf C (between from z) old new) (stop_is_end from end further) p)

-- the hash has taken the corners on the right side of the last column
pub step_last : (s : Settled) (w : Window) (old new : LayerHash) (end : ℤ) → HasAll s w
    → negsuc (2 ^ 63 - 1) ≤ℤ w.x0 → end ≤ℤ pos (2 ^ 63 - 1) → end ≡ w.x1 → IsStripPushed s w end end old new
    → IsStep s end None old new
step_last s w old new end all low high last p =
    let C : Square → Type 0 = CoversIn s (around w end end) old.layer in
    let one : IsPushedOf C (only end) old new =
    subst (λ z. IsPushedOf C (between end z) old new) (stop_is_next end end (omega (arith, ints))) p in
    step_of s w C old new end end None all low high (omega (arith, ints)) (subst (Ends None end) last (ends_none end))
    refl (λ q. (λ h. h, λ h. h))
    (record {
      layer = one.layer;
      corners = one.corners;
      are = corners_beyond C end one.corners (λ q h. h.0.x_below) one.are;
      fits = one.fits;
      hashes = one.hashes;
    })

-- two steps, one after the other
pub steps_both : (s : Settled) (from mid : ℤ) (end : Option ℤ) (a b c : LayerHash) → IsStep s from (Some mid) a b
    → IsStep s mid end b c → IsStep s from end a c
steps_both s from mid end a b c first second = record {
  layer = second.layer ∙ first.layer;
  step = λ h. second.step (first.step h);
}

-- the Layer of a hash at an index is listed
pub listed_at : (layers : List Layer) (hashes : List LayerHash) (k : ℕ) (h : LayerHash)
    → map (λ (h : LayerHash). h.layer) hashes ≡ layers → k < length hashes
    → Contains layers (get_or hashes k h).layer
listed_at layers hashes k h are lt =
    let f : LayerHash → Layer = λ (h : LayerHash). h.layer in
    let far : k < length (map f hashes) = omega (arith, lt, length-map {A = LayerHash} {B = Layer}) in
    subst (λ (ls : List Layer). Contains ls (get_or hashes k h).layer) are
    (subst (Contains (map f hashes)) (get_or-map f hashes k h h.layer lt) (Contains-get_or (map f hashes) k h.layer
    far))

-- a list that was written in place
pub written : {A : Type 0} (n : ℕ) (new old : List A) → length new ≡ length old → n ≡ length old
    → take n (new ++ drop (length new) old) ≡ new
written {A} n new old same is =
    let gone : drop (length new) old ≡ [] = nil_from_length (drop (length new) old) (omega (
      arith,
      length-drop (length new) old,
      same,
    )) in
    ap (λ (rest : List A). take n (new ++ rest)) gone
    ∙ (ap (take n) (append-nil new) ∙ take_all n new (omega (arith, same, is)))

-- one more of some hashes is changed
pub each_next : (R : LayerHash → LayerHash → Type 0) (old mid : List LayerHash) (i : ℕ) (d new : LayerHash)
    → i < length mid → length mid ≡ length old
    → ((k : ℕ) (h : LayerHash) → k < i → k < length mid → R (get_or old k h) (get_or mid k h))
    → ((k : ℕ) (h : LayerHash) → i ≤ k → k < length mid → get_or mid k h ≡ get_or old k h) → R (get_or mid i d) new
    → (k : ℕ) (h : LayerHash) → k < i + 1 → k < length (set mid i new)
    → R (get_or old k h) (get_or (set mid i new) k h)
each_next R old mid i d new lt same done rest one k h few inside =
    let there : k < length mid = omega (arith, inside, length-set mid i new) in
    by_lt_z (pos k) (pos i)
    (λ less.
    let before : k < i = omega (arith, ints, less) in
    subst (λ m. R (get_or old k h) m) (sym (get_or-set_other mid i k new h (λ e. absurd (omega (arith, before, e)))))
    (done k h before there))
    (λ more.
    let at : k ≡ i = omega (arith, ints, more, few) in
    let first : get_or mid i d ≡ get_or old k h =
    get_or_default mid i d h lt ∙ (ap (λ n. get_or mid n h) (sym at) ∙ rest k h (omega (arith, at)) there) in
    subst (λ m. R (get_or old k h) m) (sym (get_or-set_at mid i k new h at lt))
    (subst (λ m. R m new) first one))

-- the others are unchanged
pub rest_next : (old mid : List LayerHash) (i : ℕ) (new : LayerHash)
    → ((k : ℕ) (h : LayerHash) → i ≤ k → k < length mid → get_or mid k h ≡ get_or old k h) → (k : ℕ) (h : LayerHash)
    → i + 1 ≤ k → k < length (set mid i new) → get_or (set mid i new) k h ≡ get_or old k h
rest_next old mid i new rest k h far inside =
    get_or-set_other mid i k new h (λ e. absurd (omega (arith, far, e)))
    ∙ rest k h (omega (arith, far)) (omega (arith, inside, length-set mid i new))

pub same_layers : (old new : List LayerHash) → length new ≡ length old
    → ((k : ℕ) (h : LayerHash) → k < length old → (get_or new k h).layer ≡ (get_or old k h).layer)
    → map (λ (h : LayerHash). h.layer) new ≡ map (λ (h : LayerHash). h.layer) old
same_layers [] [] same each = refl
same_layers [] (n ∷ new) same each = absurd (omega (arith, same))
same_layers (o ∷ old) [] same each = absurd (omega (arith, same))
same_layers (o ∷ old) (n ∷ new) same each =
    let first : n.layer ≡ o.layer = each 0 o (omega arith) in
    let rest = same_layers old new (omega (arith, same)) (λ k h lt. each (suc k) h (omega (arith, lt))) in
    rw (first, rest) refl

-- when no columns are left, the hash has taken all corners
pub hashed_all : (s : Settled) (h : LayerHash) (to : IsHashedTo s None h) → AreCornersOf (TopCovers s h.layer) to.corners
hashed_all s h to =
    let P : Square → Type 0 = TopCovers s h.layer in
    corners_in_all P to.corners (corners_same (IsLeft None P) P (up_to None) to.corners (λ q. (λ l. l.1, λ p. (refl, p)))
    to.are)
