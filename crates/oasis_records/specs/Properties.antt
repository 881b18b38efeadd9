-- PROPERTY records (SEMI P39 OASIS 1.0, "PROPERTY record"), with the info byte UUUUVCNS. Nothing of them is kept.
use Rattle.std.specs.Prelude.{ℕ, ◌/◌, ◌==◌, ◌||◌, not, Bool, true, false, Result, Ok}
use Rattle.oasis_values.specs.Known.{Seen, Unkept}
use Rattle.oasis_values.specs.Numbers.{IsByte, IsUnsigned}
use Rattle.oasis_values.specs.Properties.{IsValue}
use Rattle.oasis_values.specs.Spelling.{Spelling, Gives, Then, Chain}
use Rattle.oasis_values.specs.declared.text.Text.TheVariants.{N}
use Rattle.oasis_records.specs.Fields.{has, If}
use Rattle.oasis_records.specs.Names.{IsStringRef}
use Rattle.oasis_records.specs.Rules.{Must, AndThen}
use Rattle.oasis_records.specs.declared.fault.RecordRule.{RecordRule}
use Rattle.oasis_records.specs.declared.fault.RecordRule.TheVariants.{Info}
use Rattle.oasis_records.specs.declared.record.Record.{Record}
use Rattle.oasis_records.specs.declared.record.Record.TheVariants.{Property}

-- V means that the values are those of the last property; then UUUU must be 0
abbrev pub is_property_info : ℕ → Bool
is_property_info i = not (has i 0x08) || (i / 16 == 0)

-- the info byte of a PROPERTY
abbrev pub IsPropertyInfo : Spelling (Result ℕ RecordRule)
IsPropertyInfo = Then IsByte (λ i. Must (is_property_info i) i Info)

-- the number of values: an integer that follows (if UUUU is 15), or UUUU
abbrev pub IsCountBy : Bool → ℕ → Spelling ℕ
IsCountBy true count = IsUnsigned
IsCountBy false count = Gives (Ok count)

-- the number of values, by the info byte
abbrev pub IsCount : ℕ → Spelling ℕ
IsCount i = IsCountBy (i / 16 == 15) (i / 16)

-- n values, which are not kept
abbrev pub AreValues : ℕ → Spelling (Unit {0})
AreValues n = Unkept (Chain (λ _. IsValue) (λ x. x) n tt)

-- the fields after the info byte; if C isn't set, the name is that of the last property
abbrev pub IsPropertyOf : ℕ → Spelling Record
IsPropertyOf i =
    Then (If (has i 0x04) (IsStringRef N (has i 0x02))) (λ _.
    Then (IsCount i) (λ n.
    Seen (λ _. Property) (AreValues n)))

-- the fields of a PROPERTY
abbrev pub IsProperty : Spelling (Result Record RecordRule)
IsProperty = AndThen IsPropertyInfo (λ i. Seen Ok (IsPropertyOf i))
