use Rattle.std.proofs.Common.{List, ◌-◌}
use Rattle.oasis_values.specs.Properties.{IsValue}
use Rattle.oasis_values.proofs.Loops.{Going}
use Rattle.oasis_records.proofs.property.skip_values.Given as goal

-- the values so far were read, for any last one
abbrev pub invariant-loop-n : goal.invariant-loop-n
invariant-loop-n g l = record {
  last : Unit {0};
  read : List (Unit {0});
  going : Going g.R.Read.remaining g.R.Read.read_errors g.R.Read.lent (λ _. IsValue) (λ x. x)
      l.count tt l.initial.input l.input (l.count - l.n) last read;
}
