-- Signed integers and reals (SEMI P39 OASIS 1.0, "Signed-integer", "Real").
use Rattle.std.specs.Prelude.{ℕ, ◌/◌, ◌%◌, ◌==◌, if◌then◌else◌, List, [], ◌∷◌, Option, Some, None}
use Rattle.std.specs.Prelude.{pos, neg_ℤ, ℤ}
use Rattle.oasis_values.specs.Known.{among, Known, Seen}
use Rattle.oasis_values.specs.Numbers.{IsByte, IsUnsigned}
use Rattle.oasis_values.specs.Spelling.{Spelling, Then, Chain}
use Rattle.oasis_values.specs.declared.fault.ValueFault.TheVariants.{RealType as unknown_type, ZeroDenominator}
use Rattle.oasis_values.specs.declared.number.Real.{Real}
use Rattle.oasis_values.specs.declared.number.Real.TheVariants.{Whole, NegWhole, Reciprocal, NegReciprocal, Ratio}
use Rattle.oasis_values.specs.declared.number.Real.TheVariants.{NegRatio, Four, Eight}
use Rattle.oasis_values.specs.declared.number.RealType.{RealType}
use Rattle.oasis_values.specs.declared.number.RealType.TheVariants.{Whole as OfWhole, NegWhole as OfNegWhole}
use Rattle.oasis_values.specs.declared.number.RealType.TheVariants.{Reciprocal as OfReciprocal}
use Rattle.oasis_values.specs.declared.number.RealType.TheVariants.{NegReciprocal as OfNegReciprocal, Ratio as OfRatio}
use Rattle.oasis_values.specs.declared.number.RealType.TheVariants.{NegRatio as OfNegRatio, Four as OfFour}
use Rattle.oasis_values.specs.declared.number.RealType.TheVariants.{Eight as OfEight}

-- the lowest bit is the sign (1 is negative), the others are the magnitude
abbrev pub with_sign : ℕ → ℤ
with_sign n = if n % 2 == 0 then pos (n / 2) else neg_ℤ (pos (n / 2))

-- a signed integer
abbrev pub IsSigned : Spelling ℤ
IsSigned = Seen with_sign IsUnsigned

-- own rule: a denominator isn't zero
abbrev pub not_zero : ℕ → Option ℕ
not_zero n = if n == 0 then None else Some n

-- an integer that isn't 0
abbrev pub IsDenominator : Spelling ℕ
IsDenominator = Then IsUnsigned (λ n. Known (not_zero n) ZeroDenominator)

-- n bytes of any value
abbrev pub IsBytes : ℕ → Spelling (List ℕ)
IsBytes n = Chain (λ _. IsByte) (λ x. x) n 0

-- the types of reals by their numbers, from 0
abbrev pub real_types : List RealType
real_types = OfWhole ∷ OfNegWhole ∷ OfReciprocal ∷ OfNegReciprocal ∷ OfRatio ∷ OfNegRatio ∷ OfFour ∷ OfEight ∷ []

-- the real after its type
abbrev pub IsRealOf : RealType → Spelling Real
IsRealOf OfWhole = Seen Whole IsUnsigned
IsRealOf OfNegWhole = Seen NegWhole IsUnsigned
IsRealOf OfReciprocal = Seen Reciprocal IsDenominator
IsRealOf OfNegReciprocal = Seen NegReciprocal IsDenominator
IsRealOf OfRatio = Then IsUnsigned (λ n. Seen (Ratio n) IsDenominator)
IsRealOf OfNegRatio = Then IsUnsigned (λ n. Seen (NegRatio n) IsDenominator)
IsRealOf OfFour = Seen Four (IsBytes 4)
IsRealOf OfEight = Seen Eight (IsBytes 8)

-- a type, and a real of that type
abbrev pub IsReal : Spelling Real
IsReal = Then IsUnsigned (λ n. Then (Known (among 0 real_types n) unknown_type) IsRealOf)
