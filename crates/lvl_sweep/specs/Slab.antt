-- Slab lists: bands of intervals. A set of squares has only one slab list.
use Rattle.std.specs.Prelude.{◌≡◌, ◌≢◌, Bool, ◌&&◌, List, [], ◌∷◌, ℤ, ◌<ℤ◌, ◌≤ℤ◌, int_lt, int_le, Option, None, Some}
use Rattle.std.specs.Prelude.{cond, All}
use Rattle.std.specs.List.{AllPairs, list_any}
use Rattle.lvl_grid.specs.declared.point.Square.{Square}

-- a value for the integers from `from` up to `to`, which is excluded
pub record Step (V : Type 0) : Type 0 where
  pub from : ℤ
  pub to : ℤ
  pub value : V

-- z is in the step
abbrev pub holds : {V : Type 0} → Step V → ℤ → Bool
holds s z = int_le s.from z && int_lt z s.to

-- the value of the first step that has z, if there is one
abbrev pub value_of : {V : Type 0} → List (Step V) → ℤ → Option V
value_of [] z = None
value_of (s ∷ ss) z = cond (holds s z) (Some s.value) (value_of ss z)

-- the first of the steps isn't before the end of s, and if it begins there, it has another value
abbrev pub Follows : {V : Type 0} → Step V → List (Step V) → Type 0
Follows s [] = Unit {0}
Follows s (t ∷ ts) = (s.to ≤ℤ t.from) × (s.to ≡ t.from → s.value ≢ t.value)

-- the steps are in order, none is empty, and steps that touch have different values
abbrev pub AreSteps : {V : Type 0} → List (Step V) → Type 0
AreSteps [] = Unit {0}
AreSteps (s ∷ ss) = (s.from <ℤ s.to) × Follows s ss × AreSteps ss

-- z is in the interval
abbrev pub spans : ℤ → ℤ × ℤ → Bool
spans z i = int_le i.0 z && int_lt z i.1

-- the intervals are in order, none is empty, and none overlap or touch
pub record AreIntervals (is : List (ℤ × ℤ)) : Type 0 where
  pub each : All (λ i. i.0 <ℤ i.1) is
  pub apart : AllPairs (λ i j. i.1 <ℤ j.0) is

-- a band: the rows from one up to another, which is excluded, and the intervals that are covered in each of them
abbrev pub Slab : Type 0
Slab = Step (List (ℤ × ℤ))

-- a slab list: the bands are in order, each has rows and intervals, and bands that touch have different intervals
pub record IsSlabList (slabs : List Slab) : Type 0 where
  pub steps : AreSteps slabs
  pub rows : All (λ b. (b.value ≢ []) × AreIntervals b.value) slabs

-- the band has the row of the square, and one of its intervals has the abscissa of the square
abbrev pub slab_covers : Square → Slab → Bool
slab_covers s b = holds b s.y && list_any (spans s.x) b.value

-- one of the bands covers the square
abbrev pub slabs_cover : List Slab → Square → Bool
slabs_cover slabs s = list_any (slab_covers s) slabs
