-- Records that give names and strings by number, except CELLNAME (SEMI P39 OASIS 1.0, "TEXTSTRING record", "PROPNAME
-- record", "PROPSTRING record", "LAYERNAME record", "XNAME record"). Nothing of them is kept.
use Rattle.std.specs.Prelude.{ℕ, nat_lt, Bool, true, false, [], ◌∷◌, Result, Ok}
use Rattle.oasis_values.specs.Known.{one_of, Seen, Unkept}
use Rattle.oasis_values.specs.Numbers.{IsUnsigned}
use Rattle.oasis_values.specs.Spelling.{Spelling, Gives, Then, Chain}
use Rattle.oasis_values.specs.Texts.{IsUnkeptString}
use Rattle.oasis_values.specs.declared.text.Text.{Text}
use Rattle.oasis_values.specs.declared.text.Text.TheVariants.{A, B, N}
use Rattle.oasis_records.specs.Rules.{Must, AndThen}
use Rattle.oasis_records.specs.declared.fault.RecordRule.{RecordRule}
use Rattle.oasis_records.specs.declared.fault.RecordRule.TheVariants.{Info}
use Rattle.oasis_records.specs.declared.names.EntryType.{EntryType}
use Rattle.oasis_records.specs.declared.names.EntryType.TheVariants.{String, NumberedString, LayerName, XName}
use Rattle.oasis_records.specs.declared.names.EntryType.TheVariants.{NumberedXName}
use Rattle.oasis_records.specs.declared.record.Record.{Record}
use Rattle.oasis_records.specs.declared.record.Record.TheVariants.{Entry}

-- a string and its number
abbrev pub IsNumberedString : Text → Spelling (Unit {0})
IsNumberedString kind = Then (IsUnkeptString kind) (λ _. Unkept IsUnsigned)

-- how many bounds an interval has, by its type: 0 is all numbers, 1 those up to a bound, 2 those from a bound on, 3 one
-- number, 4 those from one number to another
abbrev pub bounds : ℕ → ℕ
bounds = one_of 0 (0 ∷ 1 ∷ 1 ∷ 1 ∷ []) 2

-- n integers, the bounds of an interval
abbrev pub AreBounds : ℕ → Spelling (Unit {0})
AreBounds n = Unkept (Chain (λ _. IsUnsigned) (λ x. x) n 0)

-- the type of an interval, 0 to 4
abbrev pub IsIntervalType : Spelling (Result ℕ RecordRule)
IsIntervalType = Then IsUnsigned (λ t. Must (nat_lt t 5) t Info)

-- the bounds of an interval of that type
abbrev pub IsIntervalOf : ℕ → Spelling (Result (Unit {0}) RecordRule)
IsIntervalOf t = Seen Ok (AreBounds (bounds t))

-- an interval: its type, and its bounds
abbrev pub IsInterval : Spelling (Result (Unit {0}) RecordRule)
IsInterval = AndThen IsIntervalType IsIntervalOf

-- a name, and the two intervals that it is for: of layers and datatypes, or of text layers and text types
abbrev pub IsLayerName : Spelling (Result (Unit {0}) RecordRule)
IsLayerName = Then (IsUnkeptString N) (λ _. AndThen IsInterval (λ _. IsInterval))

-- an attribute and a string
abbrev pub IsXName : Spelling (Unit {0})
IsXName = Then IsUnsigned (λ _. IsUnkeptString B)

-- an attribute, a string and its number
abbrev pub IsNumberedXName : Spelling (Unit {0})
IsNumberedXName = Then IsUnsigned (λ _. IsNumberedString B)

-- the fields of a record of that type, which are not kept
abbrev pub IsEntryOf : EntryType → Spelling (Result (Unit {0}) RecordRule)
IsEntryOf (String kind) = Seen Ok (IsUnkeptString kind)
IsEntryOf (NumberedString kind) = Seen Ok (IsNumberedString kind)
IsEntryOf LayerName = IsLayerName
IsEntryOf XName = Seen Ok IsXName
IsEntryOf NumberedXName = Seen Ok IsNumberedXName

-- the fields of a record of that type
abbrev pub IsEntry : EntryType → Spelling (Result Record RecordRule)
IsEntry kind = AndThen (IsEntryOf kind) (λ _. Gives (Ok (Ok Entry)))

-- a string by the number of its record, or the string itself
abbrev pub IsStringRef : Text → Bool → Spelling (Unit {0})
IsStringRef kind true = Unkept IsUnsigned
IsStringRef kind false = IsUnkeptString kind
