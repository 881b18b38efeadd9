-- RECTANGLE records (SEMI P39 OASIS 1.0, "RECTANGLE record"), with the info byte SWHXYRDL.
use Rattle.std.specs.Prelude.{ℕ, ◌&&◌, not, Bool, List, Option, Result, Ok}
use Rattle.oasis_values.specs.Known.{Seen}
use Rattle.oasis_values.specs.Numbers.{IsByte, IsUnsigned}
use Rattle.oasis_values.specs.Spelling.{Spelling, Then}
use Rattle.oasis_values.specs.declared.fault.ValueFault.{ValueFault}
use Rattle.oasis_records.specs.Fields.{has, If, IsOnLayer, IsPosition}
use Rattle.oasis_records.specs.Rules.{Must, AndThen}
use Rattle.oasis_records.specs.declared.fault.RecordRule.{RecordRule}
use Rattle.oasis_records.specs.declared.fault.RecordRule.TheVariants.{Info}
use Rattle.oasis_records.specs.declared.figure.OnLayer.{OnLayer}
use Rattle.oasis_records.specs.declared.figure.Position.{Position}
use Rattle.oasis_records.specs.declared.record.Record.{Record}
use Rattle.oasis_records.specs.declared.record.Record.TheVariants.{Rectangle}

-- a square (S) has no height (H)
abbrev pub is_rectangle_info : ℕ → Bool
is_rectangle_info i = not (has i 0x80 && has i 0x20)

-- the info byte of a RECTANGLE
abbrev pub IsRectangleInfo : Spelling (Result ℕ RecordRule)
IsRectangleInfo = Then IsByte (λ i. Must (is_rectangle_info i) i Info)

-- the record
abbrev pub rectangle : Bool → OnLayer → Option ℕ → Option ℕ → Position → Record
rectangle s on w h p = Rectangle (record { is_square = s; on = on; width = w; height = h; position = p })

-- the fields after the info byte
abbrev pub IsRectangleOf : ℕ → Spelling Record
IsRectangleOf i =
    Then (IsOnLayer i) (λ on.
    Then (If (has i 0x40) IsUnsigned) (λ w.
    Then (If (has i 0x20) IsUnsigned) (λ h.
    Seen (rectangle (has i 0x80) on w h) (IsPosition i))))

-- the fields of a RECTANGLE
abbrev pub IsRectangle : Spelling (Result Record RecordRule)
IsRectangle = AndThen IsRectangleInfo (λ i. Seen Ok (IsRectangleOf i))
