-- The fields of a `Peeked`, for contracts.
use Rattle.std.specs.Prelude.{ℕ, List, [], ◌∷◌, Option, Some, None}
use Rattle.lvl_io.specs.declared.peeked.Peeked.{Peeked}

-- the byte that it still has to give again, if any
abbrev pub peeked_byte : {R : Type 0} → Peeked R → Option ℕ
peeked_byte p = p.byte

-- the reader of the bytes after it
abbrev pub peeked_rest : {R : Type 0} → Peeked R → R
peeked_rest p = p.rest

-- that byte as a list
abbrev pub given_again : Option ℕ → List ℕ
given_again None = []
given_again (Some b) = b ∷ []
