-- Why a stream is refused at an offset. Offsets count bytes from the beginning of the input xs.
use Rattle.std.specs.Prelude.{◌≡◌, ℕ, ◌-◌, ◌<◌, ◌≤◌, List, ◌++◌, length, take, drop, Option, Some}
use Rattle.lvl_io.specs.Known.{Agree}
use Rattle.lvl_grammar.specs.Grammar.{Grammar}
use Rattle.lvl_grammar.specs.Front.{IsFront, SpellsNothing}

-- what a format defines beside its files, with rules of type K, so that a refusal can say why
pub record Faults {R : Type 0} (G : Grammar R) (K : Type 0) : Type 1 where
  -- after these records, the bytes are an unfinished beginning of a record
  pub begun : List R → List ℕ → Type 0
  -- after these records, with that many bytes left before the limit, the first of the bytes breach the rule
  pub wrong : List R → ℕ → List ℕ → K → Type 0

-- the bytes before the offset are a front
pub record IsFrontAt {R : Type 0} (G : Grammar R) (xs : List ℕ) (at : ℕ) : Type 0 where
  pub within : at ≤ length xs
  pub records : List R
  pub front : IsFront G (take at xs) records

-- the bytes before the offset are a front; of those after it, the ones that the reader has given are none or an
-- unfinished beginning of a record, and it has the others left
pub record IsUnread {R K : Type 0} {G : Grammar R} (F : Faults G K) (xs : List ℕ) (left : Option (List ℕ))
    (at : ℕ) : Type 0 where
  pub within : at ≤ length xs
  pub records : List R
  pub front : IsFront G (take at xs) records
  pub given : List ℕ
  pub rest : List ℕ
  pub parts : drop at xs ≡ given ++ rest
  pub left_is : left ≡ Some rest
  pub begun : 0 < length given → F.begun records given

-- there is a byte at the offset, the bytes before it are a front, and no front that is longer agrees with the input
pub record IsStuck {R : Type 0} (G : Grammar R) (xs : List ℕ) (at : ℕ) : Type 0 where
  pub some : at < length xs
  pub records : List R
  pub front : IsFront G (take at xs) records
  pub none : (rs : List R) (bytes : List ℕ) → IsFront G bytes rs → at < length bytes → Agree bytes xs → ⊥

-- the bytes before the offset are a front, and those from it on breach this rule and no other
pub record IsBreached {R K : Type 0} {G : Grammar R} (F : Faults G K) (xs : List ℕ) (at : ℕ) (k : K) : Type 0 where
  pub records : List R
  pub front : IsFront G (take at xs) records
  pub wrong : F.wrong records (G.limit - at) (drop at xs) k
  pub only : (j : K) → F.wrong records (G.limit - at) (drop at xs) j → j ≡ k

-- the bytes before the offset are a front but no whole file, and those from it on are an unfinished beginning of a
-- record
pub record IsTruncated {R K : Type 0} {G : Grammar R} (F : Faults G K) (xs : List ℕ) (at : ℕ) : Type 0 where
  pub within : at ≤ length xs
  pub records : List R
  pub front : IsFront G (take at xs) records
  pub unended : ¬ G.ends records
  pub cut : F.begun records (drop at xs)

-- at least one byte of the input was taken, and the rest is left; no whole file begins with the bytes that were taken
pub record IsHopeless {R : Type 0} (G : Grammar R) (xs : List ℕ) (left : Option (List ℕ)) : Type 0 where
  pub taken : List ℕ
  pub some : 0 < length taken
  pub rest : List ℕ
  pub parts : xs ≡ taken ++ rest
  pub left_is : left ≡ Some rest
  pub none : (more : List ℕ) → SpellsNothing G (taken ++ more)
