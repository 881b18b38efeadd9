-- The slab list of a worked row: 0..20 by 0..10 and above it 0..10 by 10..20.
use Rattle.std.proofs.Common.{◌≡◌, ◌≢◌, true, false, List, [], ◌∷◌, ℤ, pos, negsuc, ◌<ℤ◌, refl, arith, ap}
use Rattle.std.proofs.lemmas.Int.{ints}
use Rattle.std.proofs.lemmas.List.Elements.{All-nil, All-cons}
use Rattle.lvl_grid.specs.declared.point.Square.{Square}
use Rattle.lvl_sweep.specs.Slab.{Slab, AreIntervals, IsSlabList, slabs_cover}

abbrev lower : Slab
lower = record { from = pos 0; to = pos 10; value = (pos 0, pos 20) ∷ [] }

abbrev upper : Slab
upper = record { from = pos 10; to = pos 20; value = (pos 0, pos 10) ∷ [] }

abbrev cornered : List Slab
cornered = lower ∷ upper ∷ []

abbrev square : ℤ → ℤ → Square
square x y = record { x = x; y = y }

lower_right : slabs_cover cornered (square (pos 19) (pos 9)) ≡ true
lower_right = refl

missing_corner : slabs_cover cornered (square (pos 10) (pos 10)) ≡ false
missing_corner = refl

upper_left : slabs_cover cornered (square (pos 9) (pos 19)) ≡ true
upper_left = refl

above : slabs_cover cornered (square (pos 0) (pos 20)) ≡ false
above = refl

below : slabs_cover cornered (square (pos 0) (negsuc 0)) ≡ false
below = refl

one_interval : (a b : ℤ) → a <ℤ b → AreIntervals ((a, b) ∷ [])
one_interval a b lt = record {
  each = All-cons (λ i. i.0 <ℤ i.1) (a, b) [] lt (All-nil (λ i. i.0 <ℤ i.1));
  apart = λ i j d le far. absurd (omega arith);
}

abbrev wide : List (ℤ × ℤ)
wide = (pos 0, pos 20) ∷ []

abbrev narrow : List (ℤ × ℤ)
narrow = (pos 0, pos 10) ∷ []

right_end : List (ℤ × ℤ) → ℤ
right_end [] = pos 0
right_end (i ∷ is) = i.1

rows_differ : wide ≡ narrow → ⊥
unfolding right_end
rows_differ e =
    let twenty : right_end wide ≡ right_end narrow = ap right_end e in
    absurd (omega (arith, ints, twenty))

abbrev IsRow : Slab → Type 0
IsRow b = (b.value ≢ []) × AreIntervals b.value

cornered_is : IsSlabList cornered
cornered_is = record {
  steps = (omega (arith, ints), (omega (arith, ints), λ e. rows_differ), (omega (arith, ints), tt, tt));
  rows = All-cons IsRow lower (upper ∷ []) ((λ e. cc), one_interval (pos 0) (pos 20) (omega (arith, ints)))
      (All-cons IsRow upper [] ((λ e. cc), one_interval (pos 0) (pos 10) (omega (arith, ints))) (All-nil IsRow));
}

-- bands that touch with equal intervals aren't a slab list
abbrev apart : List Slab
apart =
    record { from = pos 0; to = pos 10; value = (pos 0, pos 10) ∷ [] } ∷ record {
      from = pos 10;
      to = pos 20;
      value = (pos 0, pos 10) ∷ [];
    } ∷ []

not_joined : IsSlabList apart → ⊥
not_joined h = h.steps.1.1 refl refl
