use Rattle.std.proofs.Common.{◌≡◌, ◌*◌, map, take}
use Rattle.lvl_count.specs.inside.Counts.{more, rings_on}
use Rattle.lvl_count.proofs.counts.add_shapes.Given as goal

-- the rings of the shapes so far are added
abbrev pub invariant-loop-i : goal.invariant-loop-i
invariant-loop-i l = l.counts ≡ map (more (λ layer. l.times * rings_on layer (take l.i l.shapes))) l.initial.counts
