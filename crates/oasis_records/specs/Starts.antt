-- START records (SEMI P39 OASIS 1.0, "START record"). Own rule: a version has at most 255 bytes.
use Rattle.std.specs.Prelude.{ℕ, ◌==◌, nat_lt, not, Bool, true, false, List, [], ◌∷◌, Result, Ok}
use Rattle.std.specs.Str.{bytes_eq}
use Rattle.oasis_values.specs.Known.{Seen}
use Rattle.oasis_values.specs.Numbers.{IsUnsigned}
use Rattle.oasis_values.specs.Reals.{IsReal}
use Rattle.oasis_values.specs.Spelling.{Spelling, Gives, Then, Chain}
use Rattle.oasis_values.specs.Texts.{IsString}
use Rattle.oasis_values.specs.declared.fault.ValueFault.{ValueFault}
use Rattle.oasis_values.specs.declared.number.Real.{Real}
use Rattle.oasis_values.specs.declared.number.Real.TheVariants.{NegWhole, NegReciprocal, NegRatio}
use Rattle.oasis_values.specs.declared.text.Text.TheVariants.{A}
use Rattle.oasis_records.specs.Rules.{Must, AndThen}
use Rattle.oasis_records.specs.declared.fault.RecordRule.{RecordRule}
use Rattle.oasis_records.specs.declared.fault.RecordRule.TheVariants.{Version, Unit as NoUnit, Info}
use Rattle.oasis_records.specs.declared.record.Record.{Record}
use Rattle.oasis_records.specs.declared.record.Record.TheVariants.{Start}

-- "1.0"
abbrev pub is_version : List ℕ → Bool
is_version text = bytes_eq text (0x31 ∷ 0x2E ∷ 0x30 ∷ [])

-- the version, before it is tested
abbrev pub IsVersionText : Spelling (Result (List ℕ) RecordRule)
IsVersionText = Seen Ok (IsString A 255)

-- the version, which must be "1.0"
abbrev pub IsVersion : Spelling (Result (List ℕ) RecordRule)
IsVersion = AndThen IsVersionText (λ text. Must (is_version text) text Version)

-- the unit's type isn't that of a negative whole number, reciprocal or ratio
abbrev pub is_unit : Real → Bool
is_unit (NegWhole n) = false
is_unit (NegReciprocal n) = false
is_unit (NegRatio n m) = false
is_unit r = true

-- the unit: grid steps in a micron
abbrev pub IsUnit : Spelling (Result Real RecordRule)
IsUnit = Then IsReal (λ u. Must (is_unit u) u NoUnit)

-- the offset flag, 0 or 1
abbrev pub IsFlag : Spelling (Result ℕ RecordRule)
IsFlag = Then IsUnsigned (λ f. Must (nat_lt f 2) f Info)

-- twelve integers of any value, two for each of six tables
abbrev pub AreOffsets : Spelling Bool
AreOffsets = Seen (λ _. true) (Chain (λ _. IsUnsigned) (λ n. n) 12 0)

-- the offsets of tables, if they are here
abbrev pub AreTables : Bool → Spelling Bool
AreTables true = AreOffsets
AreTables false = Gives (Ok false)

-- whether the offsets are in START: the flag is 0
abbrev pub is_here : ℕ → Bool
is_here flag = not (flag == 1)

-- the record, and whether the offsets of tables are in END
abbrev pub start : Real → Bool → Result Record RecordRule
start unit here = Ok (Start (record { unit = unit; has_offsets_at_end = not here }))

-- the fields after the version
abbrev pub IsStartOf : Spelling (Result Record RecordRule)
IsStartOf = AndThen IsUnit (λ u. AndThen IsFlag (λ f. Seen (start u) (AreTables (is_here f))))

-- the fields of a START
abbrev pub IsStart : Spelling (Result Record RecordRule)
IsStart = AndThen IsVersion (λ _. IsStartOf)
