-- How far an input was read.
use Rattle.std.specs.Prelude.{◌≡◌, ◌-◌, ℕ, ◌≤◌, List, ◌++◌, length, take, drop, Option, Some}
use Rattle.lvl_grammar.specs.Grammar.{Grammar}
use Rattle.lvl_grammar.specs.Front.{IsFront}
use Rattle.lvl_grammar.specs.Refused.{Faults}

-- the bytes before the offset are a front whose records have a property, and the reader has the others left
pub record ReadTo {R : Type 0} (G : Grammar R) (xs : List ℕ) (at : ℕ) (Has : List R → Type 0)
    (left : Option (List ℕ)) : Type 0 where
  pub records : List R
  pub front : IsFront G (take at xs) records
  pub holds : Has records
  pub left_is : left ≡ Some (drop at xs)
  pub within : at ≤ length xs

-- at the offset the bytes that were seen breach this rule, whatever comes after them, and the input breaches no other
pub record IsSeenWrong {R K : Type 0} {G : Grammar R} (F : Faults G K) (xs : List ℕ) (at : ℕ)
    (left : Option (List ℕ)) (k : K) : Type 0 where
  pub within : at ≤ length xs
  pub records : List R
  pub front : IsFront G (take at xs) records
  pub seen : List ℕ
  pub rest : List ℕ
  pub parts : drop at xs ≡ seen ++ rest
  pub left_is : left ≡ Some rest
  pub wrong : (more : List ℕ) → F.wrong records (G.limit - at) (seen ++ more) k
  pub only : (j : K) → F.wrong records (G.limit - at) (drop at xs) j → j ≡ k
