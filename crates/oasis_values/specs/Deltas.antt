-- Deltas (SEMI P39 OASIS 1.0, "Deltas"). A 1-delta is a signed integer.
use Rattle.std.specs.Prelude.{ℕ, ◌/◌, ◌%◌, ◌==◌, Bool, true, false, [], ◌∷◌, Ok, pos, neg_ℤ, ℤ}
use Rattle.lvl_grid.specs.declared.point.Point.{Point}
use Rattle.oasis_values.specs.Known.{one_of, Seen}
use Rattle.oasis_values.specs.Numbers.{IsUnsigned}
use Rattle.oasis_values.specs.Reals.{with_sign}
use Rattle.oasis_values.specs.Spelling.{Spelling, Gives, Then}
use Rattle.oasis_values.specs.declared.delta.Direction.{Direction}
use Rattle.oasis_values.specs.declared.delta.Direction.TheVariants.{East, North, West, South, Northeast, Northwest}
use Rattle.oasis_values.specs.declared.delta.Direction.TheVariants.{Southwest, Southeast}

-- the directions by their numbers, from 0
abbrev pub direction_of : ℕ → Direction
direction_of = one_of 0 (East ∷ North ∷ West ∷ South ∷ Northeast ∷ Northwest ∷ Southwest ∷ []) Southeast

-- the displacement by x and y
abbrev pub to : ℤ → ℤ → Point
to x y = record { x = x; y = y }

-- the displacement by m in a direction; in a diagonal one, by m along each axis
abbrev pub toward : Direction → ℕ → Point
toward East m = to (pos m) (pos 0)
toward North m = to (pos 0) (pos m)
toward West m = to (neg_ℤ (pos m)) (pos 0)
toward South m = to (pos 0) (neg_ℤ (pos m))
toward Northeast m = to (pos m) (pos m)
toward Northwest m = to (neg_ℤ (pos m)) (pos m)
toward Southwest m = to (neg_ℤ (pos m)) (neg_ℤ (pos m))
toward Southeast m = to (pos m) (neg_ℤ (pos m))

-- the displacement by two numbers, for x and y; the lowest bit of each is set for west or south
abbrev pub free : ℕ → ℕ → Point
free across up = to (with_sign across) (with_sign up)

-- the lowest two bits are the direction, the others the magnitude
abbrev pub two_delta : ℕ → Point
two_delta n = toward (direction_of (n % 4)) (n / 4)

-- the lowest three bits are the direction, the others the magnitude
abbrev pub three_delta : ℕ → Point
three_delta n = toward (direction_of (n % 8)) (n / 8)

-- a 2-delta
abbrev pub IsTwoDelta : Spelling Point
IsTwoDelta = Seen two_delta IsUnsigned

-- a 3-delta
abbrev pub IsThreeDelta : Spelling Point
IsThreeDelta = Seen three_delta IsUnsigned

-- what comes after the first integer n of a g-delta, by whether its lowest bit is 0: nothing, since n has a direction
-- and a magnitude; or the integer of y, since n has x
abbrev pub IsRestOfGDelta : Bool → ℕ → Spelling Point
IsRestOfGDelta true n = Gives (Ok (toward (direction_of (n / 2 % 8)) (n / 16)))
IsRestOfGDelta false n = Seen (free (n / 2)) IsUnsigned

-- a g-delta, of one or two integers
abbrev pub IsGDelta : Spelling Point
IsGDelta = Then IsUnsigned (λ n. IsRestOfGDelta (n % 2 == 0) n)
