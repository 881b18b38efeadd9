-- The laws of each spelling of a value.
use Rattle.std.proofs.Common.{ℕ, ◌/◌, ◌%◌, ◌==◌, Bool, true, false}
use Rattle.oasis_values.specs.Known.{Known, among}
use Rattle.oasis_values.specs.Deltas.{free, two_delta, three_delta, IsTwoDelta, IsThreeDelta}
use Rattle.oasis_values.specs.Deltas.{IsRestOfGDelta, IsGDelta}
use Rattle.oasis_values.specs.Texts.{character, text_length, any_length, IsCharacter, AreCharacters, IsString}
use Rattle.oasis_values.specs.Texts.{AreUnkeptCharacters, IsUnkeptString}
use Rattle.oasis_values.specs.Properties.{value_types, IsValueOf, IsValue}
use Rattle.oasis_values.specs.Spelling.{Then}
use Rattle.oasis_values.specs.Reals.{with_sign, IsSigned, not_zero, IsDenominator, IsBytes, real_types, IsRealOf}
use Rattle.oasis_values.specs.Reals.{IsReal}
use Rattle.oasis_values.proofs.Codes.{IsCode, gives_code, then_code, chain_code, known_code, seen_code}
use Rattle.oasis_values.proofs.Integers.{byte_code, unsigned_code}
use Rattle.oasis_values.specs.declared.fault.ValueFault.TheVariants.{RealType as unknown_type, ZeroDenominator}
use Rattle.oasis_values.specs.declared.fault.ValueFault.TheVariants.{StringByte}
use Rattle.oasis_values.specs.declared.number.Real.TheVariants.{Whole, NegWhole, Reciprocal, NegReciprocal, Ratio}
use Rattle.oasis_values.specs.declared.number.Real.TheVariants.{NegRatio, Four, Eight}
use Rattle.oasis_values.specs.declared.number.RealType.{RealType}
use Rattle.oasis_values.specs.declared.number.RealType.TheVariants.{Whole as OfWhole, NegWhole as OfNegWhole}
use Rattle.oasis_values.specs.declared.number.RealType.TheVariants.{Reciprocal as OfReciprocal}
use Rattle.oasis_values.specs.declared.number.RealType.TheVariants.{NegReciprocal as OfNegReciprocal, Ratio as OfRatio}
use Rattle.oasis_values.specs.declared.number.RealType.TheVariants.{NegRatio as OfNegRatio, Four as OfFour}
use Rattle.oasis_values.specs.declared.number.RealType.TheVariants.{Eight as OfEight}
use Rattle.oasis_values.specs.declared.property.ValueType.{ValueType}
use Rattle.oasis_values.specs.declared.property.ValueType.TheVariants.{Real, Unsigned, Signed, String, Reference}
use Rattle.oasis_values.specs.declared.text.Text.{Text}

pub signed_code : IsCode IsSigned
signed_code = seen_code with_sign unsigned_code

pub denominator_code : IsCode IsDenominator
denominator_code = then_code unsigned_code (λ n. known_code (not_zero n) ZeroDenominator)

pub bytes_code : (n : ℕ) → IsCode (IsBytes n)
bytes_code n = chain_code (λ x. x) n 0 (λ _. byte_code)

pub real_of_code : (k : RealType) → IsCode (IsRealOf k)
real_of_code OfWhole = seen_code Whole unsigned_code
real_of_code OfNegWhole = seen_code NegWhole unsigned_code
real_of_code OfReciprocal = seen_code Reciprocal denominator_code
real_of_code OfNegReciprocal = seen_code NegReciprocal denominator_code
real_of_code OfRatio = then_code unsigned_code (λ n. seen_code (Ratio n) denominator_code)
real_of_code OfNegRatio = then_code unsigned_code (λ n. seen_code (NegRatio n) denominator_code)
real_of_code OfFour = seen_code Four (bytes_code 4)
real_of_code OfEight = seen_code Eight (bytes_code 8)

pub after_type_code : (n : ℕ) → IsCode (Then (Known (among 0 real_types n) unknown_type) IsRealOf)
after_type_code n = then_code (known_code (among 0 real_types n) unknown_type) real_of_code

pub real_code : IsCode IsReal
real_code = then_code unsigned_code after_type_code

pub two_delta_code : IsCode IsTwoDelta
two_delta_code = seen_code two_delta unsigned_code

pub three_delta_code : IsCode IsThreeDelta
three_delta_code = seen_code three_delta unsigned_code

pub rest_of_g_delta_code : (b : Bool) (n : ℕ) → IsCode (IsRestOfGDelta b n)
rest_of_g_delta_code true n = gives_code
rest_of_g_delta_code false n = seen_code (free (n / 2)) unsigned_code

pub g_delta_code : IsCode IsGDelta
g_delta_code = then_code unsigned_code (λ n. rest_of_g_delta_code (n % 2 == 0) n)

pub character_code : (kind : Text) → IsCode (IsCharacter kind)
character_code kind = then_code byte_code (λ c. known_code (character kind c) StringByte)

pub characters_code : (kind : Text) (n : ℕ) → IsCode (AreCharacters kind n)
characters_code kind n = chain_code (λ c. c) n 0 (λ _. character_code kind)

pub after_length_code : (kind : Text) (most n : ℕ)
    → IsCode (Then (Known (text_length kind most n) StringByte) (AreCharacters kind))
after_length_code kind most n =
    then_code (known_code (text_length kind most n) StringByte) (characters_code kind)

pub string_code : (kind : Text) (most : ℕ) → IsCode (IsString kind most)
string_code kind most = then_code unsigned_code (after_length_code kind most)

pub unkept_characters_code : (kind : Text) (n : ℕ) → IsCode (AreUnkeptCharacters kind n)
unkept_characters_code kind n = seen_code (λ _. tt) (characters_code kind n)

pub after_any_length_code : (kind : Text) (n : ℕ)
    → IsCode (Then (Known (any_length kind n) StringByte) (AreUnkeptCharacters kind))
after_any_length_code kind n = then_code (known_code (any_length kind n) StringByte) (unkept_characters_code kind)

pub unkept_string_code : (kind : Text) → IsCode (IsUnkeptString kind)
unkept_string_code kind = then_code unsigned_code (after_any_length_code kind)

pub value_of_code : (k : ValueType) → IsCode (IsValueOf k)
value_of_code (Real kind) = seen_code (λ _. tt) (real_of_code kind)
value_of_code Unsigned = seen_code (λ _. tt) unsigned_code
value_of_code Signed = seen_code (λ _. tt) signed_code
value_of_code (String kind) = unkept_string_code kind
value_of_code Reference = seen_code (λ _. tt) unsigned_code

pub after_value_type_code : (n : ℕ) → IsCode (Then (Known (among 0 value_types n) unknown_type) IsValueOf)
after_value_type_code n = then_code (known_code (among 0 value_types n) unknown_type) value_of_code

pub value_code : IsCode IsValue
value_code = then_code unsigned_code after_value_type_code
