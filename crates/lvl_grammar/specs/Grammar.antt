-- What the files of a format are, for streams of records.
use Rattle.std.specs.Prelude.{ℕ, List}

-- a format with records of type R
pub record Grammar (R : Type 0) : Type 1 where
  -- after these records, the bytes spell the record
  pub spells : List R → List ℕ → R → Type 0
  -- the record may follow these: the order allows it, and it breaches no rule
  pub follows : List R → R → Type 0
  -- the records make a whole file
  pub ends : List R → Type 0
  -- the greatest length of a file, in bytes
  pub limit : ℕ
