use Rattle.std.proofs.Common.{◌≡◌, map, take}
use Rattle.lvl_grid.specs.Clip.{put}
use Rattle.lvl_simplify.proofs.spanning.is_inside.Given as goal

-- clamping changes no point so far
abbrev pub invariant-loop-point : goal.invariant-loop-point
invariant-loop-point l = map (put l.part) (take l.point-index l.ring) ≡ take l.point-index l.ring
