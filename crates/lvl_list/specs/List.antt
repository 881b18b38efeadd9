-- A list of digests, with lines as `sha256sum` writes them (own rule): for each file a line with the digits of the
-- digest of its mask, two spaces, and its name.
use Rattle.std.specs.Prelude.{◌≡◌, ◌≢◌, ◌⊎◌, ◌==◌, ◌&&◌, ◌||◌, ◌+◌, ℕ, Bool, true, nat_le, List, [], ◌∷◌, ◌++◌}
use Rattle.std.specs.Prelude.{length, flat_map, if◌then◌else◌, string_bytes, IsUtf8}
use Rattle.std.specs.List.{list_all, list_any}
use Rattle.lvl_list.specs.declared.entry.Entry.{Entry}

-- the byte `\`
abbrev pub backslash : ℕ
backslash = 92

-- the byte of a line feed
abbrev pub line_feed : ℕ
line_feed = 10

-- the byte of a carriage return
abbrev pub carriage_return : ℕ
carriage_return = 13

-- the byte of a space
abbrev pub space : ℕ
space = 32

-- whether a byte of a name is written in another form
abbrev pub is_special : ℕ → Bool
is_special byte = (byte == backslash) || ((byte == line_feed) || (byte == carriage_return))

-- a byte of a name as it is written: these three as `\\`, `\n` and `\r`, any other as it is
abbrev pub escaped_byte : ℕ → List ℕ
escaped_byte byte =
    if byte == backslash then backslash ∷ backslash ∷ [] else
    (if byte == line_feed then backslash ∷ 110 ∷ [] else
    (if byte == carriage_return then backslash ∷ 114 ∷ [] else byte ∷ []))

-- the bytes of a name as they are written
abbrev pub escaped : List ℕ → List ℕ
escaped name = flat_map escaped_byte name

-- a backslash if a byte of the name is written in another form
abbrev pub mark : List ℕ → List ℕ
mark name = if list_any is_special name then backslash ∷ [] else []

-- a name as it is written in a line of its own
abbrev pub name_text : List ℕ → List ℕ
name_text name = mark name ++ escaped name

-- the line of a file, without its line feed
abbrev pub entry_front : List ℕ → List ℕ → List ℕ
entry_front digits name = mark name ++ digits ++ space ∷ space ∷ escaped name

-- the line of a file
abbrev pub entry_text : List ℕ → List ℕ → List ℕ
entry_text digits name = entry_front digits name ++ line_feed ∷ []

-- whether the byte is a hexadecimal digit in lower case
abbrev pub is_digit : ℕ → Bool
is_digit byte = (nat_le 48 byte && nat_le byte 57) || (nat_le 97 byte && nat_le byte 102)

-- whether the bytes are the digits of a SHA-256
abbrev pub is_digest : List ℕ → Bool
is_digest digits = (length digits == 64) && list_all is_digit digits

-- the line of an entry
abbrev pub line_of : Entry → List ℕ
line_of e = entry_text e.digits.items (string_bytes e.name)

-- the text of the lines of some entries
abbrev pub lines_of : List Entry → List ℕ
lines_of entries = flat_map line_of entries

-- each of the entries has a digest
abbrev pub have_digests : List Entry → Bool
have_digests entries = list_all (λ e. is_digest e.digits.items) entries

-- the text is the lines of these entries, of which there is at least one
pub record IsList (text : List ℕ) (entries : List Entry) : Type 0 where
  pub lines : text ≡ lines_of entries
  pub digests : have_digests entries ≡ true
  pub some : entries ≢ []

-- line n, counted from 1, is the first that isn't the line of a file; an empty text has an empty line 1
pub record IsBadLine (text : List ℕ) (n : ℕ) : Type 0 where
  pub before : List Entry
  pub rest : List ℕ
  pub number : n ≡ length before + 1
  pub parts : text ≡ lines_of before ++ rest
  pub digests : have_digests before ≡ true
  pub there : (rest ≢ []) ⊎ (n ≡ 1)
  pub bad : (digits name more : List ℕ) → is_digest digits ≡ true → IsUtf8 name
      → rest ≢ entry_text digits name ++ more
