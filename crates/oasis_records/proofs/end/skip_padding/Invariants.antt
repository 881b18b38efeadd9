use Rattle.std.proofs.Common.{ℕ, List, ◌-◌}
use Rattle.oasis_values.specs.Numbers.{IsByte}
use Rattle.oasis_values.proofs.Loops.{Going}
use Rattle.oasis_records.proofs.end.skip_padding.Given as goal

-- the bytes so far were read, for any last one
abbrev pub invariant-loop-n : goal.invariant-loop-n
invariant-loop-n g l = record {
  last : ℕ;
  read : List ℕ;
  going : Going g.R.Read.remaining g.R.Read.read_errors g.R.Read.lent (λ _. IsByte) (λ x. x)
      l.count 0 l.initial.input l.input (l.count - l.n) last read;
}
