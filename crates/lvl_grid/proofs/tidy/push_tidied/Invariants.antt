use Rattle.std.proofs.Common.{◌≡◌, ◌≤◌, List, ◌∷◌, ◌++◌, take, drop, vec_len, vec_capacity}
use Rattle.lvl_grid.specs.declared.point.Point.{Point}
use Rattle.lvl_grid.specs.Tidy.{WindsAs}
use Rattle.lvl_grid.proofs.tidy.push_tidied.Given as goal

-- dropping the points so far keeps the winding, whatever comes after
abbrev pub invariant-loop-points : goal.invariant-loop-points
invariant-loop-points l = record {
  kept : take l.start l.points.items ≡ take l.start l.fn.points.items;
  winds : (rest : List Point)
      → WindsAs (drop l.start l.fn.points.items ++ l.point ∷ rest) (drop l.start l.points.items ++ l.point ∷ rest);
  from : l.start ≤ vec_len l.points;
  len : vec_len l.points ≤ vec_len l.fn.points;
  capacity : vec_capacity l.points ≡ vec_capacity l.fn.points;
}

abbrev pub decreases-loop-points : goal.decreases-loop-points
decreases-loop-points l = vec_len l.points
