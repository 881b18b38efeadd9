-- Fields of records that are there if a bit of the info byte is set (SEMI P39 OASIS 1.0, "Info-byte").
use Rattle.std.specs.Prelude.{ℕ, ◌/◌, ◌%◌, ◌==◌, nat_lt, Bool, true, false, List, Option, Some, None, Result, Ok, ℤ}
use Rattle.oasis_values.specs.Known.{Seen}
use Rattle.oasis_values.specs.Numbers.{IsByte, IsUnsigned}
use Rattle.oasis_values.specs.Reals.{IsSigned}
use Rattle.oasis_values.specs.Repetitions.{IsRepetition}
use Rattle.oasis_values.specs.Spelling.{Spelling, Gives, Then}
use Rattle.oasis_values.specs.declared.fault.ValueFault.{ValueFault}
use Rattle.oasis_values.specs.declared.repetition.Repetition.{Repetition}
use Rattle.oasis_records.specs.Rules.{Must}
use Rattle.oasis_records.specs.declared.fault.RecordRule.{RecordRule}
use Rattle.oasis_records.specs.declared.fault.RecordRule.TheVariants.{Info}
use Rattle.oasis_records.specs.declared.figure.OnLayer.{OnLayer}
use Rattle.oasis_records.specs.declared.figure.Position.{Position}

-- whether the bit with the weight `letter` is set
abbrev pub has : ℕ → ℕ → Bool
has info letter = info / letter % 2 == 1

-- an info byte below a limit, since its highest bits are reserved
abbrev pub IsInfo : ℕ → Spelling (Result ℕ RecordRule)
IsInfo limit = Then IsByte (λ i. Must (nat_lt i limit) i Info)

-- a field that is there, or isn't
abbrev pub If : {A : Type 0} → Bool → Spelling A → Spelling (Option A)
If true S = Seen Some S
If false S = Gives (Ok None)

-- a layer and a datatype, as far as they are there
abbrev pub on_layer : Option ℕ → Option ℕ → OnLayer
on_layer l d = record { layer = l; datatype = d }

-- the layer and datatype of a figure, by the letters L and D
abbrev pub IsOnLayer : ℕ → Spelling OnLayer
IsOnLayer info = Then (If (has info 0x01) IsUnsigned) (λ l. Seen (on_layer l) (If (has info 0x02) IsUnsigned))

-- a position and a repetition, as far as they are there
abbrev pub position : Option ℤ → Option ℤ → Option Repetition → Position
position x y r = record { x = x; y = y; repetition = r }

-- x, y and the repetition of a figure, by the letters X, Y and R
abbrev pub IsPosition : ℕ → Spelling Position
IsPosition info =
    Then (If (has info 0x10) IsSigned)
    (λ x. Then (If (has info 0x08) IsSigned) (λ y. Seen (position x y) (If (has info 0x04) (IsRepetition true))))
