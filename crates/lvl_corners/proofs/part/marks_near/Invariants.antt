use Rattle.std.proofs.Common.{◌≡◌, ◌+ℤ◌, ℤ, true, length}
use Rattle.lvl_corners.specs.Gathered.{near, IsLowered}
use Rattle.lvl_corners.specs.inside.Marks.{net, bands_net}
use Rattle.lvl_corners.specs.inside.Rows.{ended_net}
use Rattle.lvl_corners.proofs.part.marks_near.Given as goal

-- near the abscissa, the marks of the bands so far, those of the row at which the last one ends, and those of the bands
-- still to come are all marks
abbrev pub invariant-loop-band : goal.invariant-loop-band
invariant-loop-band g l = record {
  kept : (x y : ℤ) → near l.x l.limit.end x ≡ true
      → (net x y l.marks.items +ℤ ended_net x y l.row) +ℤ bands_net x y l.sweep ≡ bands_net x y l.initial.sweep;
  lowered : IsLowered l.x l.end l.limit.end;
}

abbrev pub decreases-loop-band : goal.decreases-loop-band
decreases-loop-band g l = length l.sweep
