use Rattle.std.proofs.Common.{ℕ}
use Rattle.oasis_values.specs.Texts.{IsCharacter}
use Rattle.oasis_values.proofs.Loops.{Going}
use Rattle.oasis_values.proofs.input.Input.characters.Given as goal

-- the characters so far were read, for any last one
abbrev pub invariant-characters : goal.invariant-characters
invariant-characters g l = record {
  last : ℕ;
  going : Going g.R.Read.remaining g.R.Read.read_errors g.R.Read.lent (λ _. IsCharacter l.kind) (λ c. c)
      l.len 0 l.initial.self l.self l.left last l.text.items;
}

-- what is left becomes less
abbrev pub decreases-characters : goal.decreases-characters
decreases-characters g l = l.left
