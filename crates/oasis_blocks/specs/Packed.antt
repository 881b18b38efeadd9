-- What a block consists of (SEMI P39 OASIS 1.0, "CBLOCK record").
use Rattle.std.specs.Prelude.{ℕ, List}

-- how many bytes it has, as it says, and the packed bytes
pub record Packed : Type 0 where
  pub count : ℕ
  pub bytes : List ℕ

-- a block with that count and these packed bytes
abbrev pub packed : ℕ → List ℕ → Packed
packed count bytes = record { count = count; bytes = bytes }
