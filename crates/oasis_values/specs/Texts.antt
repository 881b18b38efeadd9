-- Strings (SEMI P39 OASIS 1.0, "Strings"): a length and that many bytes, each allowed by the string's kind. Own rule:
-- the greatest length.
use Rattle.std.specs.Prelude.{ℕ, ◌&&◌, nat_le, Bool, true, if◌then◌else◌, List, Option, Some, None}
use Rattle.oasis_values.specs.Known.{Known, Unkept}
use Rattle.oasis_values.specs.Numbers.{IsByte, IsUnsigned}
use Rattle.oasis_values.specs.Spelling.{Spelling, Then, Chain}
use Rattle.oasis_values.specs.declared.fault.ValueFault.TheVariants.{StringByte}
use Rattle.oasis_values.specs.declared.text.Text.{Text}
use Rattle.oasis_values.specs.declared.text.Text.TheVariants.{A, B, N}

-- the least length: an n-string isn't empty
abbrev pub least_length : Text → ℕ
least_length A = 0
least_length B = 0
least_length N = 1

-- the length n, if a string of that kind may have it and it is at most `most`
abbrev pub text_length : Text → ℕ → ℕ → Option ℕ
text_length kind most n = if nat_le (least_length kind) n && nat_le n most then Some n else None

-- an a-string has printable characters and spaces, an n-string printable characters, a b-string any bytes
abbrev pub has_character : Text → ℕ → Bool
has_character A c = nat_le 0x20 c && nat_le c 0x7E
has_character B c = true
has_character N c = nat_le 0x21 c && nat_le c 0x7E

-- the byte c, if it may be in a string of that kind
abbrev pub character : Text → ℕ → Option ℕ
character kind c = if has_character kind c then Some c else None

-- a byte of a string of that kind
abbrev pub IsCharacter : Text → Spelling ℕ
IsCharacter kind = Then IsByte (λ c. Known (character kind c) StringByte)

-- n bytes of a string of that kind
abbrev pub AreCharacters : Text → ℕ → Spelling (List ℕ)
AreCharacters kind n = Chain (λ _. IsCharacter kind) (λ c. c) n 0

-- a string of at most `most` bytes, which are kept
abbrev pub IsString : Text → ℕ → Spelling (List ℕ)
IsString kind most = Then IsUnsigned (λ n. Then (Known (text_length kind most n) StringByte) (AreCharacters kind))

-- the length n, if a string of that kind may have it
abbrev pub any_length : Text → ℕ → Option ℕ
any_length kind n = if nat_le (least_length kind) n then Some n else None

-- n bytes of a string of that kind, which are not kept
abbrev pub AreUnkeptCharacters : Text → ℕ → Spelling (Unit {0})
AreUnkeptCharacters kind n = Unkept (AreCharacters kind n)

-- a string of any length, which is not kept
abbrev pub IsUnkeptString : Text → Spelling (Unit {0})
IsUnkeptString kind = Then IsUnsigned (λ n. Then (Known (any_length kind n) StringByte) (AreUnkeptCharacters kind))
