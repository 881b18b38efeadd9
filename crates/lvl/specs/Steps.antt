-- Whether the grid steps of two files agree (own rule).
use Rattle.std.specs.Prelude.{◌≡◌, ◌⊎◌, ℕ, List, Some, slice_get}
use Rattle.std.specs.Int.{w64, from_be_bytes}
use Rattle.lvl.specs.declared.layout.Head.{Head}
use Rattle.lvl.specs.declared.layout.Head.TheVariants.{Gds, Oasis}
use Rattle.lvl_units.specs.Steps.{Fraction, IsGdsStep, IsOasisStep, IsReadable, AreApart}

-- the length of a step of a file with this head: by the second real of UNITS, or by the unit of START
abbrev pub IsStepOf : Head → Fraction → Type 0
IsStepOf (Gds head) f =
    (real : List ℕ) × (slice_get head.units 1 ≡ Some real) × IsGdsStep (from_be_bytes w64 real) f
IsStepOf (Oasis head) f = IsOasisStep head.unit f

-- that length, which is readable
pub record IsReadStep (head : Head) (f : Fraction) : Type 0 where
  pub is : IsStepOf head f
  pub readable : IsReadable f

-- the file has no readable length of a step
abbrev pub HasNoStep : Head → Type 0
HasNoStep head = (f : Fraction) → ¬ IsReadStep head f

-- both lengths are readable, and they are near each other
pub record AgreeInSteps (first second : Head) : Type 0 where
  pub ours : Fraction
  pub theirs : Fraction
  pub first_is : IsReadStep first ours
  pub second_is : IsReadStep second theirs
  pub near : ¬ AreApart ours theirs

-- both lengths are readable, and they are apart
pub record AreStepsApart (first second : Head) : Type 0 where
  pub ours : Fraction
  pub theirs : Fraction
  pub first_is : IsReadStep first ours
  pub second_is : IsReadStep second theirs
  pub apart : AreApart ours theirs

-- one of the lengths isn't readable, or they are apart
abbrev pub DifferInSteps : Head → Head → Type 0
DifferInSteps first second = HasNoStep first ⊎ (HasNoStep second ⊎ AreStepsApart first second)
