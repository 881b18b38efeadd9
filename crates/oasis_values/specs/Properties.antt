-- Values of properties (SEMI P39 OASIS 1.0, "PROPERTY record"), which are read but not kept.
use Rattle.std.specs.Prelude.{List, [], ◌∷◌, ◌++◌, map}
use Rattle.oasis_values.specs.Known.{among, Known, Unkept}
use Rattle.oasis_values.specs.Numbers.{IsUnsigned}
use Rattle.oasis_values.specs.Reals.{real_types, IsRealOf, IsSigned}
use Rattle.oasis_values.specs.Spelling.{Spelling, Then}
use Rattle.oasis_values.specs.Texts.{IsUnkeptString}
use Rattle.oasis_values.specs.declared.fault.ValueFault.TheVariants.{RealType as unknown_type}
use Rattle.oasis_values.specs.declared.property.ValueType.{ValueType}
use Rattle.oasis_values.specs.declared.property.ValueType.TheVariants.{Real, Unsigned, Signed, String, Reference}
use Rattle.oasis_values.specs.declared.text.Text.TheVariants.{A, B, N}

-- the types of values by their numbers, from 0: those of reals, then others; the last three are numbers of PROPSTRING
-- records
abbrev pub value_types : List ValueType
value_types =
    map Real real_types
    ++ (Unsigned ∷ Signed ∷ String A ∷ String B ∷ String N ∷ Reference ∷ Reference ∷ Reference ∷ [])

-- the value after its type
abbrev pub IsValueOf : ValueType → Spelling (Unit {0})
IsValueOf (Real kind) = Unkept (IsRealOf kind)
IsValueOf Unsigned = Unkept IsUnsigned
IsValueOf Signed = Unkept IsSigned
IsValueOf (String kind) = IsUnkeptString kind
IsValueOf Reference = Unkept IsUnsigned

-- a type, and a value of that type
abbrev pub IsValue : Spelling (Unit {0})
IsValue = Then IsUnsigned (λ n. Then (Known (among 0 value_types n) unknown_type) IsValueOf)
