use Rattle.std.proofs.Common.{ℕ, List, ◌-◌}
use Rattle.oasis_values.specs.Texts.{IsCharacter}
use Rattle.oasis_values.proofs.Loops.{Going}
use Rattle.oasis_values.proofs.input.Input.skip_characters.Given as goal

-- the characters so far were read, for any last one
abbrev pub invariant-loop-n : goal.invariant-loop-n
invariant-loop-n g l = record {
  last : ℕ;
  read : List ℕ;
  going : Going g.R.Read.remaining g.R.Read.read_errors g.R.Read.lent (λ _. IsCharacter l.kind) (λ c. c)
      l.len 0 l.initial.self l.self (l.len - l.n) last read;
}
