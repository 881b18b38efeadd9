use Rattle.std.proofs.Common.{ℕ, ◌≡◌, ◌-◌, length, take}
use Rattle.oasis_values.specs.Numbers.{IsByte}
use Rattle.oasis_values.proofs.Loops.{Going}
use Rattle.oasis_values.proofs.input.Input.bytes_of.Given as goal

-- the bytes so far were read, for any last byte
abbrev pub invariant-loop-n : goal.invariant-loop-n
invariant-loop-n g l = record {
  last : ℕ;
  going : Going g.R.Read.remaining g.R.Read.read_errors g.R.Read.lent (λ _. IsByte) (λ x. x)
      g.row.N 0 l.initial.self l.self (g.row.N - l.n) last (take l.n l.bytes);
  len : length l.bytes ≡ g.row.N;
}
