use Rattle.std.proofs.Common.{◌≡◌, ◌+◌, ◌-◌, ◌≤◌, List, ◌∷◌, vec_len, vec_capacity}
use Rattle.lvl_grid.specs.declared.point.Point.{Point}
use Rattle.oasis_values.specs.PointLists.{origin}
use Rattle.oasis_values.specs.Repetitions.{IsShift}
use Rattle.oasis_values.proofs.Loops.{Going}
use Rattle.oasis_values.proofs.input.Input.shifts.Given as goal

-- some shifts were read, which are after the zero shift, and there is capacity for the others
abbrev pub invariant-loop-n : goal.invariant-loop-n
invariant-loop-n g l = record {
  read : List Point;
  going : Going g.R.Read.remaining g.R.Read.read_errors g.R.Read.lent (IsShift l.spacing l.grid) (λ p. p)
      l.count origin l.initial.self l.self (l.count - l.n) l.at read;
  shifts : l.shifts.items ≡ origin ∷ read;
  len : vec_len l.shifts ≡ l.n + 1;
  capacity : l.count + 1 ≤ vec_capacity l.shifts;
}
