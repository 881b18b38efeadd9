use Rattle.std.proofs.Common.{◌≡◌, ◌+◌, ◌-◌, ◌≤◌, List, ◌∷◌, vec_len, vec_capacity}
use Rattle.lvl_grid.specs.declared.point.Point.{Point}
use Rattle.oasis_values.specs.PointLists.{origin, last_of, start_of, IsNext}
use Rattle.oasis_values.proofs.Loops.{Going}
use Rattle.oasis_values.proofs.input.Input.vertices.Given as goal

-- some vertices were read, which are after the start; the walk is at the last of them, and there is capacity for the
-- others
abbrev pub invariant-loop-n : goal.invariant-loop-n
invariant-loop-n g l = record {
  read : List Point;
  going : Going g.R.Read.remaining g.R.Read.read_errors g.R.Read.lent (IsNext l.kind) (λ w. w.at) l.count
      (start_of l.kind) l.initial.self l.self (l.count - l.n) l.walk read;
  points : l.points.items ≡ origin ∷ read;
  last : l.walk.at ≡ last_of origin read;
  len : vec_len l.points ≡ l.n + 1;
  capacity : l.count + 2 ≤ vec_capacity l.points;
}
