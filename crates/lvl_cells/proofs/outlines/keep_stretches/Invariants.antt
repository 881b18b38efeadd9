use Rattle.std.proofs.Common.{◌-◌}
use Rattle.lvl_cells.specs.inside.Outlines.{AddsStretches}
use Rattle.lvl_cells.specs.inside.Spans.{IsPrefixOf}
use Rattle.lvl_cells.proofs.outlines.keep_stretches.Given as goal

-- the corners of the stretches so far are appended
abbrev pub invariant-loop-count : goal.invariant-loop-count
invariant-loop-count l =
    IsPrefixOf l.initial.points.items l.points.items
    × AddsStretches l.initial.points.items l.points.items l.count l.ring

-- fewer numbers are left
abbrev pub decreases-loop-count : goal.decreases-loop-count
decreases-loop-count l = 65535 - l.count
