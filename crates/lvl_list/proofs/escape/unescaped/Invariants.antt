use Rattle.std.proofs.Common.{◌≡◌, ◌++◌, List, ℕ, length}
use Rattle.lvl_list.specs.List.{escaped}
use Rattle.lvl_list.proofs.escape.unescaped.Given as goal

-- the name so far is spelled by what was read, and what is left of the text of a name spells the rest of it
abbrev pub invariant-loop-rest : goal.invariant-loop-rest
invariant-loop-rest l = record {
  spelled : l.text ≡ escaped l.name.items ++ l.rest;
  left : (name : List ℕ) → l.text ≡ escaped name
      → (more : List ℕ) × (l.rest ≡ escaped more) × (name ≡ l.name.items ++ more);
}

abbrev pub decreases-loop-rest : goal.decreases-loop-rest
decreases-loop-rest l = length l.rest
