-- END records (SEMI P39 OASIS 1.0, "END record"), which have 256 bytes with their id.
use Rattle.std.specs.Prelude.{ℕ, ◌+◌, ◌==◌, nat_lt, nat_le, Bool, true, false, List, [], ◌∷◌, Result, Ok}
use Rattle.oasis_values.specs.Known.{Seen}
use Rattle.oasis_values.specs.Numbers.{IsByte, IsUnsigned}
use Rattle.oasis_values.specs.Spelling.{Spelling, Gives, Then, Chain}
use Rattle.oasis_values.specs.declared.fault.ValueFault.{ValueFault}
use Rattle.oasis_records.specs.Rules.{Must, AndThen}
use Rattle.oasis_records.specs.Sizes.{Sized}
use Rattle.oasis_records.specs.Starts.{AreTables}
use Rattle.oasis_records.specs.declared.end.Validation.{Validation}
use Rattle.oasis_records.specs.declared.end.Validation.TheVariants.{Absent, Crc32, Checksum32}
use Rattle.oasis_records.specs.declared.fault.RecordRule.{RecordRule}
use Rattle.oasis_records.specs.declared.fault.RecordRule.TheVariants.{EndLength, Scheme}
use Rattle.oasis_records.specs.declared.measured.Measured.{Measured}
use Rattle.oasis_records.specs.declared.record.Record.{Record}
use Rattle.oasis_records.specs.declared.record.Record.TheVariants.{End}

-- the offsets of tables, if they are in END, and the length of the padding
abbrev pub IsPaddingLength : Bool → Spelling ℕ
IsPaddingLength has_offsets = Then (AreTables has_offsets) (λ _. IsUnsigned)

-- n bytes of any value; what is kept is n
abbrev pub ArePadding : ℕ → Spelling ℕ
ArePadding n = Seen (λ _. n) (Chain (λ _. IsByte) (λ x. x) n 0)

-- the validation scheme: 0, 1 or 2
abbrev pub IsScheme : Spelling (Result ℕ RecordRule)
IsScheme = Then IsByte (λ s. Must (nat_lt s 3) s Scheme)

-- a list of four bytes
abbrev pub four : ℕ → ℕ → ℕ → ℕ → List ℕ
four a b c d = a ∷ b ∷ c ∷ d ∷ []

-- four bytes of any value
abbrev pub AreFour : Spelling (List ℕ)
AreFour = Then IsByte (λ a. Then IsByte (λ b. Then IsByte (λ c. Seen (four a b c) IsByte)))

-- the validation by its scheme, which is 1 (a CRC32) or 2 (a CHECKSUM32)
abbrev pub signed : Bool → List ℕ → Validation
signed true bytes = Crc32 bytes
signed false bytes = Checksum32 bytes

-- the signature of scheme s; scheme 0 has none
abbrev pub IsSignature : Bool → ℕ → Spelling Validation
IsSignature true s = Gives (Ok Absent)
IsSignature false s = Seen (signed (s == 1)) AreFour

-- the length of a signature in bytes
abbrev pub validation_len : Validation → ℕ
validation_len Absent = 0
validation_len (Crc32 b) = 4
validation_len (Checksum32 b) = 4

-- what comes after the length n of the padding
abbrev pub IsEnding : ℕ → Spelling (Result Validation RecordRule)
IsEnding n = Then (ArePadding n) (λ _. AndThen IsScheme (λ s. Seen Ok (IsSignature (s == 0) s)))

-- the padding and the scheme byte are within the 256 bytes of the record
abbrev pub fits : ℕ → Measured → Bool
fits id_len p = nat_le (id_len + p.len + p.value + 1) 256

-- the record has 256 bytes
abbrev pub is_whole : ℕ → Measured → Validation → Bool
is_whole id_len p v = id_len + p.len + p.value + 1 + validation_len v == 256

-- the fields after the length of the padding, and the test that the record has 256 bytes
abbrev pub IsEndOf : ℕ → Measured → Spelling (Result Record RecordRule)
IsEndOf id_len p = AndThen (IsEnding p.value) (λ v. Must (is_whole id_len p v) (End v) EndLength)

-- the fields of END, after an id of `id_len` bytes; its length is tested before the padding is read, and at the end
abbrev pub IsEnd : Bool → ℕ → Spelling (Result Record RecordRule)
IsEnd has_offsets id_len =
    Then (Sized (IsPaddingLength has_offsets)) (λ p. AndThen (Must (fits id_len p) p EndLength) (IsEndOf id_len))
