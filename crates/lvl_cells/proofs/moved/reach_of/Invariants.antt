use Rattle.std.proofs.Common.{All, take}
use Rattle.lvl_names.specs.Shifts.{IsBetween}
use Rattle.lvl_cells.proofs.moved.reach_of.Given as goal

-- the points so far are between both corners
abbrev pub invariant-loop-point : goal.invariant-loop-point
invariant-loop-point l = All (IsBetween l.low l.high) (take l.point-index l.points)
