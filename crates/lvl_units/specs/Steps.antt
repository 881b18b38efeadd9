-- The length of a grid step, as a fraction of a metre.
use Rattle.std.specs.Prelude.{◌≡◌, ℕ, ◌+◌, ◌-◌, ◌*◌, ◌/◌, ◌%◌, ◌^◌, ◌<◌, ◌≤◌, ◌⊎◌}
use Rattle.std.specs.Int.{w32, w64, from_le_bytes}
use Rattle.oasis_values.specs.declared.number.Real.{Real}
use Rattle.oasis_values.specs.declared.number.Real.TheVariants.{Whole, Reciprocal, Ratio}
use Rattle.oasis_values.specs.declared.number.Real.TheVariants.{Four, Eight}

-- a fraction of two natural numbers
pub record Fraction : Type 0 where
  pub numerator : ℕ
  pub denominator : ℕ

-- the fraction is a divided by b, and neither denominator is 0
pub record IsQuotient (f : Fraction) (a b : ℕ) : Type 0 where
  pub same : f.numerator * b ≡ a * f.denominator
  pub some : 0 < f.denominator
  pub divides : 0 < b

-- own rule: a step is at least a millionth of a nanometre and at most a metre
pub record IsReadable (f : Fraction) : Type 0 where
  pub most : f.numerator ≤ f.denominator
  pub least : f.denominator ≤ f.numerator * 10 ^ 15

-- the length of a step in a GDSII file, given the second real of UNITS as one number of 64 bits (GDSII Stream Format
-- Manual, Release 6, UNITS and "Eight-Byte Real"): the first bit is the sign, the next seven are an exponent to the base
-- 16 in excess of 64, and the other 56 are a fraction of one
pub record IsGdsStep (real : ℕ) (f : Fraction) : Type 0 where
  pub positive : real < 2 ^ 63
  pub is : IsQuotient f (real % 2 ^ 56 * 16 ^ (real / 2 ^ 56)) (16 ^ 78)

-- the length of a step, given steps in a micrometre as a number of IEEE 754 of 64 bits: a sign, eleven bits of an
-- exponent to the base 2 in excess of 1023, and 52 bits of a fraction that follows 1. Not the numbers nearly zero, with
-- the exponent 0, nor the infinite ones and those that are no number, with the greatest
pub record IsDoubleStep (real : ℕ) (f : Fraction) : Type 0 where
  pub positive : real < 2 ^ 63
  pub normal : 0 < real / 2 ^ 52
  pub finite : real / 2 ^ 52 < 2047
  pub is : IsQuotient f (2 ^ 1075) ((2 ^ 52 + real % 2 ^ 52) * 2 ^ (real / 2 ^ 52) * 10 ^ 6)

-- the length of a step, given steps in a micrometre as a number of IEEE 754 of 32 bits: a sign, eight bits of an
-- exponent in excess of 127, and 23 bits of a fraction
pub record IsFloatStep (real : ℕ) (f : Fraction) : Type 0 where
  pub positive : real < 2 ^ 31
  pub normal : 0 < real / 2 ^ 23
  pub finite : real / 2 ^ 23 < 255
  pub is : IsQuotient f (2 ^ 150) ((2 ^ 23 + real % 2 ^ 23) * 2 ^ (real / 2 ^ 23) * 10 ^ 6)

-- the length of a step in an OASIS file, given its unit: steps in a micrometre (SEMI P39 OASIS 1.0, "START record" and
-- "Real")
abbrev pub IsOasisStep : Real → Fraction → Type 0
IsOasisStep (Whole n) f = IsQuotient f 1 (n * 10 ^ 6)
IsOasisStep (Reciprocal n) f = IsQuotient f n (10 ^ 6)
IsOasisStep (Ratio n m) f = IsQuotient f m (n * 10 ^ 6)
IsOasisStep (Four bytes) f = IsFloatStep (from_le_bytes w32 bytes) f
IsOasisStep (Eight bytes) f = IsDoubleStep (from_le_bytes w64 bytes) f
IsOasisStep _ f = ⊥

-- the first is greater than the second by more than one part in 2^32
abbrev pub IsGreaterBy : Fraction → Fraction → Type 0
IsGreaterBy f g = (g.numerator * 2 ^ 32) * f.denominator < (f.numerator * (2 ^ 32 - 1)) * g.denominator

-- own rule: two steps differ if they are further apart than one part in 2^32; one bit of a real is less
abbrev pub AreApart : Fraction → Fraction → Type 0
AreApart f g = IsGreaterBy f g ⊎ IsGreaterBy g f

-- n is the number of millionths of a nanometre that is nearest to the length
pub record IsNearest (f : Fraction) (n : ℕ) : Type 0 where
  pub low : 2 * (n * f.denominator) ≤ 2 * (f.numerator * 10 ^ 15) + f.denominator
  pub high : 2 * (f.numerator * 10 ^ 15) ≤ 2 * (n * f.denominator) + f.denominator
