-- What the parts of a line say.
use Rattle.std.specs.Prelude.{◌≡◌, ◌≢◌, ◌==◌, ℕ, Bool, true, false, List, [], ◌∷◌, ◌++◌, Option, Some, None}
use Rattle.std.specs.Prelude.{if◌then◌else◌, IsUtf8}
use Rattle.lvl_list.specs.List.{backslash, entry_front, escaped, is_digest, space}

-- the first byte that a text spells is this one, and this comes after it
abbrev pub IsNext : Option (ℕ × List ℕ) → ℕ → List ℕ → Type 0
IsNext (Some (b, after)) byte rest = (b ≡ byte) × (after ≡ rest)
IsNext None byte rest = ⊥

-- the only name that a text spells, or that it spells none
abbrev pub IsUnescaped : List ℕ → Option (List ℕ) → Type 0
IsUnescaped text (Some name) = (text ≡ escaped name) × ((other : List ℕ) → text ≡ escaped other → other ≡ name)
IsUnescaped text None = (name : List ℕ) → text ≢ escaped name

-- whether a line begins with a backslash
abbrev pub is_marked : List ℕ → Bool
is_marked [] = false
is_marked (b ∷ bs) = b == backslash

-- a line without the backslash at its beginning
abbrev pub unmarked : List ℕ → List ℕ
unmarked [] = []
unmarked (b ∷ bs) = if b == backslash then bs else b ∷ bs

-- the digits of a digest and what comes after two spaces, or that the text has no such parts
abbrev pub IsSplit : List ℕ → Option (List ℕ × List ℕ) → Type 0
IsSplit text (Some (digits, rest)) = (text ≡ digits ++ space ∷ space ∷ rest) × (is_digest digits ≡ true)
IsSplit text None = (digits rest : List ℕ) → is_digest digits ≡ true → text ≢ digits ++ space ∷ space ∷ rest

-- the digits and the name of the file whose line this is, or that it is the line of no file
abbrev pub IsRead : List ℕ → Option (List ℕ × List ℕ) → Type 0
IsRead line (Some (digits, name)) = (line ≡ entry_front digits name) × (is_digest digits ≡ true)
IsRead line None = (digits name : List ℕ) → is_digest digits ≡ true → IsUtf8 name → line ≢ entry_front digits name
