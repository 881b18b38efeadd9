use Rattle.std.proofs.Common.{◌-◌}
use Rattle.lvl_witness.specs.inside.Rings.{NoneBefore}
use Rattle.lvl_witness.proofs.rings.place_of.Given as goal

-- at no place before this one does the ring cover the square
abbrev pub invariant-loop-place : goal.invariant-loop-place
invariant-loop-place l = NoneBefore l.map l.square l.shifts l.ring l.place

abbrev pub decreases-loop-place : goal.decreases-loop-place
decreases-loop-place l = l.count - l.place
