use Rattle.std.proofs.Common.{◌-◌, length, take}
use Rattle.lvl_flat.specs.declared.scope.Scope.TheVariants.{Within}
use Rattle.lvl_flat.specs.inside.Drawn.{IsRingDrawn}
use Rattle.lvl_flat.proofs.within.draw_places.Given as goal

-- the ring is drawn at the shifts so far
abbrev pub invariant-loop-shift : goal.invariant-loop-shift
invariant-loop-shift l = IsRingDrawn l.map (Within l.window) (take l.k l.shifts) l.ring l.initial.rings l.rings

-- fewer shifts are left after each
abbrev pub decreases-loop-shift : goal.decreases-loop-shift
decreases-loop-shift l = length l.shifts - l.k
