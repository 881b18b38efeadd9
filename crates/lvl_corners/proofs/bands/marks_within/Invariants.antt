use Rattle.std.proofs.Common.{◌≡◌, ◌+ℤ◌, ℤ, true, length}
use Rattle.lvl_corners.specs.inside.Marks.{net, bands_net}
use Rattle.lvl_corners.specs.inside.Rows.{ended_net}
use Rattle.lvl_corners.specs.Spans.{spanned}
use Rattle.lvl_corners.proofs.bands.marks_within.Given as goal

-- at the abscissas of the span, the marks of the bands so far, those of the row at which the last one ends, and those of
-- the bands still to come are all marks
abbrev pub invariant-loop-band : goal.invariant-loop-band
invariant-loop-band g l =
    (x y : ℤ) → spanned l.span x ≡ true → (net x y l.marks.items +ℤ ended_net x y l.row) +ℤ bands_net x y l.sweep
    ≡ bands_net x y l.initial.sweep

abbrev pub decreases-loop-band : goal.decreases-loop-band
decreases-loop-band g l = length l.sweep
