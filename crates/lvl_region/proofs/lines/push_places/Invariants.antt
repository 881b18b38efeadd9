use Rattle.std.proofs.Common.{◌≡◌, ◌++◌, map, take}
use Rattle.lvl_region.specs.Grid.{along}
use Rattle.lvl_region.proofs.lines.push_places.Given as goal

abbrev pub invariant-loop-point : goal.invariant-loop-point
invariant-loop-point l = l.lines.items ≡ l.fn.lines.items ++ map (along l.axis) (take l.point-index l.points)
