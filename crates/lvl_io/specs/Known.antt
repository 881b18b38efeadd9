-- The bytes of an input, if they are known: those that were read and not yet taken, followed by those that the reader
-- has left.
use Rattle.std.specs.Prelude.{◌≡◌, ◌⊎◌, List, ℕ, ◌++◌, Option, Some}

-- if bytes were known before, the same bytes are known after
abbrev pub Stays : Option (List ℕ) → Option (List ℕ) → Type 0
Stays old new = (xs : List ℕ) → old ≡ Some xs → new ≡ Some xs

-- one of the two lists is a prefix of the other
abbrev pub Agree : List ℕ → List ℕ → Type 0
Agree a b = (more : List ℕ) × ((a ≡ b ++ more) ⊎ (b ≡ a ++ more))
