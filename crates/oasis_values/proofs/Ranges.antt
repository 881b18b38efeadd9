-- Coordinates within 64 bits, as the code tests them.
use Rattle.std.proofs.Common.{◌≡◌, ◌<◌, ◌^◌, true, ℤ, pos, negsuc, arith}
use Rattle.std.specs.Prelude.{FitsSigned}
use Rattle.std.specs.Int.{w64}
use Rattle.std.proofs.lemmas.Bool.Decides.{nat_tests}
use Rattle.std.proofs.lemmas.Int.{ints}
use Rattle.oasis_values.specs.Ranges.{is_in_range}

pub range_true : (z : ℤ) → FitsSigned w64 z → is_in_range z ≡ true
range_true (pos n) f = let h : n < 2 ^ 63 = omega (arith, ints, f) in grind (arith, nat_tests)
range_true (negsuc n) f = let h : n < 2 ^ 63 = omega (arith, ints, f) in grind (arith, nat_tests)

pub range_fits : (z : ℤ) → is_in_range z ≡ true → FitsSigned w64 z
range_fits (pos n) e = let h : n < 2 ^ 63 = grind (arith, nat_tests) in omega (arith, ints, h)
range_fits (negsuc n) e = let h : n < 2 ^ 63 = grind (arith, nat_tests) in omega (arith, ints, h)
