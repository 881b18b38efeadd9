-- TEXT records (SEMI P39 OASIS 1.0, "TEXT record"), with the info byte 0CNXYRTL. Only the repetition is kept, since
-- later records may use it again.
use Rattle.std.specs.Prelude.{ℕ, Result, Ok, Option}
use Rattle.oasis_values.specs.Known.{Seen}
use Rattle.oasis_values.specs.Spelling.{Spelling, Then}
use Rattle.oasis_values.specs.declared.text.Text.TheVariants.{A}
use Rattle.oasis_records.specs.Fields.{has, If, IsInfo, IsOnLayer, IsPosition}
use Rattle.oasis_records.specs.Names.{IsStringRef}
use Rattle.oasis_records.specs.Rules.{AndThen}
use Rattle.oasis_records.specs.declared.fault.RecordRule.{RecordRule}
use Rattle.oasis_records.specs.declared.figure.Position.{Position}
use Rattle.oasis_records.specs.declared.record.Record.{Record}
use Rattle.oasis_records.specs.declared.record.Record.TheVariants.{Text}

-- what is kept of a TEXT
abbrev pub label : Position → Record
label p = Text p.repetition

-- the fields after the info byte; the text layer and the text type are read as a layer and a datatype. Own rule: N
-- without C is ignored
abbrev pub IsLabelOf : ℕ → Spelling Record
IsLabelOf i =
    Then (If (has i 0x40) (IsStringRef A (has i 0x20))) (λ _.
    Then (IsOnLayer i) (λ _.
    Seen label (IsPosition i)))

-- the fields of a TEXT; the highest bit of the info byte is reserved
abbrev pub IsLabel : Spelling (Result Record RecordRule)
IsLabel = AndThen (IsInfo 0x80) (λ i. Seen Ok (IsLabelOf i))
