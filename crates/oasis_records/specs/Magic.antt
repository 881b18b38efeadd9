-- What a file begins with (SEMI P39 OASIS 1.0, "Magic-bytes").
use Rattle.std.specs.Prelude.{ℕ, ◌==◌, List, [], ◌∷◌, Result, Ok}
use Rattle.oasis_values.specs.Numbers.{IsByte}
use Rattle.oasis_values.specs.Spelling.{Spelling, Gives, Then}
use Rattle.oasis_values.specs.declared.fault.ValueFault.{ValueFault}
use Rattle.oasis_records.specs.Rules.{Must, AndThen}
use Rattle.oasis_records.specs.declared.fault.RecordRule.{RecordRule}
use Rattle.oasis_records.specs.declared.fault.RecordRule.TheVariants.{Magic}

-- "%SEMI-OASIS", a carriage return and a line feed
abbrev pub magic : List ℕ
magic = 0x25 ∷ 0x53 ∷ 0x45 ∷ 0x4D ∷ 0x49 ∷ 0x2D ∷ 0x4F ∷ 0x41 ∷ 0x53 ∷ 0x49 ∷ 0x53 ∷ 0x0D ∷ 0x0A ∷ []

-- one byte of the magic string
abbrev pub IsMagicByte : ℕ → Spelling (Result ℕ RecordRule)
IsMagicByte wanted = Then IsByte (λ b. Must (b == wanted) b Magic)

-- these bytes, one after another; the rule is breached at the first that differs
abbrev pub AreMagicBytes : List ℕ → Spelling (Result (Unit {0}) RecordRule)
AreMagicBytes [] = Gives (Ok (Ok tt))
AreMagicBytes (m ∷ ms) = AndThen (IsMagicByte m) (λ _. AreMagicBytes ms)

-- the magic string
abbrev pub IsMagic : Spelling (Result (Unit {0}) RecordRule)
IsMagic = AreMagicBytes magic
