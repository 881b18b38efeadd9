use Rattle.std.proofs.Common.{◌≡◌, Some}
use Rattle.std.specs.Vec.{vec_capacity}
use Rattle.lvl_sweep.specs.inside.Alive.{HasSame}
use Rattle.lvl_sweep.specs.inside.Rows.{bands_from}
use Rattle.lvl_sweep.specs.inside.Strips.{IsAt, left}
use Rattle.lvl_sweep.specs.inside.Sweeps.{IsRead}
use Rattle.lvl_sweep.proofs.sweep.find_row.Given as goal

-- the strips passed have no intervals
abbrev pub invariant-loop-top : goal.invariant-loop-top
invariant-loop-top l = record {
  at : IsAt l.strips;
  read : IsRead l.strips l.row;
  edges : HasSame l.fn.strips.edges.items l.strips.edges.items;
  skipped : bands_from l.fn.strips.edges.items (Some l.fn.strips.y) ≡ bands_from l.strips.edges.items (Some l.strips.y);
  capacity : vec_capacity l.row ≡ vec_capacity l.fn.row;
}

abbrev pub decreases-loop-top : goal.decreases-loop-top
decreases-loop-top l = left l.strips.edges.items l.strips.y
