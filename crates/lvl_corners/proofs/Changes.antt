-- The changes of what bands cover.
use Rattle.std.proofs.Common.{◌≡◌, suc, Bool, true, false, ◌&&◌, cond, List, [], ◌∷◌, get_or, ℤ, pos}
use Rattle.std.proofs.Common.{◌+ℤ◌, ◌-ℤ◌, ◌<ℤ◌, ◌≤ℤ◌, int_lt, int_le, All, refl, sym, ◌∙◌, ap, arith, inl, inr}
use Rattle.std.specs.List.{list_any}
use Rattle.std.specs.Int.{int_min}
use Rattle.std.proofs.lemmas.Int.{ints, clamps}
use Rattle.std.proofs.lemmas.Bool.{and_parts, or_cases}
use Rattle.std.proofs.lemmas.List.Elements.{All-head, All-tail}
use Rattle.lvl_grid.specs.declared.point.Square.{Square}
use Rattle.lvl_sweep.specs.Slab.{Slab, holds, AreSteps, spans, AreIntervals, IsSlabList}
use Rattle.lvl_sweep.specs.Slab.{slab_covers, slabs_cover}
use Rattle.lvl_sweep.proofs.Slabs.{early_rest}
use Rattle.lvl_sweep.proofs.BandLists.{in_value, cover_is}
use Rattle.lvl_corners.specs.Corners.{bit, change_at, IsBounded}
use Rattle.lvl_corners.specs.inside.Marks.{row_step, band_net, bands_net}
use Rattle.lvl_corners.proofs.IntTests.{ends_change, either_bit}

later_intervals : (i : ℤ × ℤ) (is : List (ℤ × ℤ)) → AreIntervals (i ∷ is) → AreIntervals is
later_intervals i is h = record {
  each = All-tail (λ i. i.0 <ℤ i.1) i is h.each;
  apart = λ j k d lt far. h.apart (suc j) (suc k) d (omega (arith, lt)) (omega (arith, far));
}

-- no interval that begins right of x has it
none_right : (x : ℤ) (is : List (ℤ × ℤ)) → All (λ j. x <ℤ j.0) is → list_any (spans x) is ≡ false
none_right x [] h = refl
none_right x (i ∷ is) h =
    let right : x <ℤ i.0 = All-head (λ j. x <ℤ j.0) i is h in
    let t : int_le i.0 x ≡ false = grind (arith, ints) in
    rw t (none_right x is (All-tail (λ j. x <ℤ j.0) i is h))

later_than : (x : ℤ) (i : ℤ × ℤ) (is : List (ℤ × ℤ)) → AreIntervals (i ∷ is) → spans x i ≡ true → All (λ j. x <ℤ j.0) is
later_than x i is h here = λ k d lt.
    let parts = and_parts (int_le i.0 x) (int_lt x i.1) here in
    let high : x <ℤ i.1 = grind (arith, ints) in
    let apart : i.1 <ℤ (get_or is k d).0 = h.apart 0 (suc k) d (omega arith) (omega (arith, lt)) in
    omega (arith, ints, high, apart)

row_bit : (x : ℤ) (i : ℤ × ℤ) (is : List (ℤ × ℤ)) → AreIntervals (i ∷ is)
    → bit (list_any (spans x) (i ∷ is)) ≡ bit (spans x i) +ℤ bit (list_any (spans x) is)
row_bit x i is h =
    either_bit (spans x i) (list_any (spans x) is) (λ here. none_right x is (later_than x i is h here))

-- what the intervals of a row cover changes where one begins and where one ends
pub row_change : (x : ℤ) (is : List (ℤ × ℤ)) → AreIntervals is
    → row_step x is ≡ bit (list_any (spans x) is) -ℤ bit (list_any (spans (x -ℤ pos 1)) is)
row_change x [] h = refl
row_change x (i ∷ is) h =
    let rest = row_change x is (later_intervals i is h) in
    let here = ends_change (pos 1) x i.0 i.1 (All-head (λ i. i.0 <ℤ i.1) i is h.each) in
    let now = row_bit x i is h in
    let before = row_bit (x -ℤ pos 1) i is h in
    omega (arith, ints, rest, here, now, before)

with_row : (h p q : Bool) → bit (h && p) -ℤ bit (h && q) ≡ cond h (bit p -ℤ bit q) (pos 0)
with_row true p q = refl
with_row false p q = refl

-- what a band covers changes where it begins and where it ends
band_change : (x y : ℤ) (b : Slab) → b.from <ℤ b.to → AreIntervals b.value
    → band_net x y b ≡ change_at (λ s. slab_covers s b) x y
band_change x y b full row =
    let step = row_step x b.value in
    let r : Bool = list_any (spans x) b.value in
    let l : Bool = list_any (spans (x -ℤ pos 1)) b.value in
    let is : step ≡ bit r -ℤ bit l = row_change x b.value row in
    ends_change step y b.from b.to full
    ∙ (ap (λ d. cond (holds b y) d (pos 0) -ℤ cond (holds b (y -ℤ pos 1)) d (pos 0)) is
    ∙ sym (ap (λ d. d -ℤ (bit (holds b (y -ℤ pos 1) && r) -ℤ bit (holds b (y -ℤ pos 1) && l))) (with_row (holds b y)
    r l)
    ∙ ap (λ d. cond (holds b y) (bit r -ℤ bit l) (pos 0) -ℤ d) (with_row (holds b (y -ℤ pos 1)) r l)))

slabs_bit : (s : Square) (b : Slab) (bs : List Slab) → AreSteps (b ∷ bs)
    → bit (slabs_cover (b ∷ bs) s) ≡ bit (slab_covers s b) +ℤ bit (slabs_cover bs s)
slabs_bit s b bs a =
    either_bit (slab_covers s b) (slabs_cover bs s) (λ here.
    let parts = and_parts (holds b s.y) (list_any (spans s.x) b.value) here in
    let ends = and_parts (int_le b.from s.y) (int_lt s.y b.to) parts.0 in
    let high : s.y <ℤ b.to = let t : int_lt s.y b.to ≡ true = ends.1 in grind (arith, ints) in
    cover_is s bs a.2 ∙ ap (in_value s.x) (early_rest b bs s.y a.1 a.2 high))

later_slabs : (b : Slab) (bs : List Slab) → IsSlabList (b ∷ bs) → IsSlabList bs
later_slabs b bs h = record {
  steps = h.steps.2;
  rows = λ k d lt. h.rows (suc k) d (omega (arith, lt));
}

first_row : (b : Slab) (bs : List Slab) → IsSlabList (b ∷ bs) → AreIntervals b.value
first_row b bs h = (h.rows 0 b (omega arith)).1

-- the change of what bands cover is the sum of what each adds
pub bands_change : (x y : ℤ) (bs : List Slab) → IsSlabList bs → bands_net x y bs ≡ change_at (slabs_cover bs) x y
bands_change x y [] h = refl
bands_change x y (b ∷ bs) h =
    let rest = bands_change x y bs (later_slabs b bs h) in
    let here = band_change x y b h.steps.0 (first_row b bs h) in
    let at : (u v : ℤ) → bit (slabs_cover (b ∷ bs) (record { x = u; y = v }))
    ≡ bit (slab_covers (record { x = u; y = v }) b) +ℤ bit (slabs_cover bs (record { x = u; y = v })) =
    λ u v. slabs_bit (record { x = u; y = v }) b bs h.steps in
    omega (arith, ints, rest, here, at x y, at (x -ℤ pos 1) y, at x (y -ℤ pos 1), at (x -ℤ pos 1) (y -ℤ pos 1))

least_start : List (ℤ × ℤ) → ℤ
least_start [] = pos 0
least_start (i ∷ is) = int_min i.0 (least_start is)

starts_right : (x : ℤ) (is : List (ℤ × ℤ)) → list_any (spans x) is ≡ true → least_start is ≤ℤ x
unfolding least_start
starts_right x [] h = cc
starts_right x (i ∷ is) h = elim (or_cases (spans x i) (list_any (spans x) is) h) [
  | inl here ↦
      let t : int_le i.0 x ≡ true = (and_parts (int_le i.0 x) (int_lt x i.1) here).0 in
      let low : i.0 ≤ℤ x = grind (arith, ints) in
      omega (arith, ints, clamps, low)
  | inr there ↦
      let low : least_start is ≤ℤ x = starts_right x is there in
      omega (arith, ints, clamps, low)
]

-- bands cover nothing left of some abscissa, and nothing below some ordinate
pub bands_bounded : (bs : List Slab) → IsBounded (slabs_cover bs)
bands_bounded [] = record { left = pos 0; bottom = pos 0; each = λ s h. cc }
bands_bounded (b ∷ bs) =
    let rest = bands_bounded bs in
    record {
      left = int_min (least_start b.value) rest.left;
      bottom = int_min b.from rest.bottom;
      each = λ s h. elim (or_cases (slab_covers s b) (slabs_cover bs s) h) [
        | inl here ↦
            let parts = and_parts (holds b s.y) (list_any (spans s.x) b.value) here in
            let t : int_le b.from s.y ≡ true = (and_parts (int_le b.from s.y) (int_lt s.y b.to) parts.0).0 in
            let low : b.from ≤ℤ s.y = grind (arith, ints) in
            let near : least_start b.value ≤ℤ s.x = starts_right s.x b.value parts.1 in
            (omega (arith, ints, clamps, near), omega (arith, ints, clamps, low))
        | inr there ↦
            let both = rest.each s there in
            (omega (arith, ints, clamps, both.0), omega (arith, ints, clamps, both.1))
      ];
    }
