use Rattle.std.proofs.Common.{◌≡◌}
use Rattle.std.specs.Vec.{vec_capacity}
use Rattle.lvl_sweep.specs.inside.Alive.{HasSame}
use Rattle.lvl_sweep.specs.inside.Strips.{IsAt, left}
use Rattle.lvl_sweep.specs.inside.Sweeps.{IsHeld, IsRead}
use Rattle.lvl_sweep.proofs.sweep.lengthen.Given as goal

-- the strips passed have the band's intervals
abbrev pub invariant-loop-strips : goal.invariant-loop-strips
invariant-loop-strips l = record {
  at : IsAt l.strips;
  read : IsRead l.strips l.row;
  edges : HasSame l.fn.strips.edges.items l.strips.edges.items;
  held : IsHeld l.strips.edges.items l.band l.strips.y;
  low : l.band.y0 ≡ l.fn.band.y0;
  intervals : l.band.intervals ≡ l.fn.band.intervals;
  capacity : vec_capacity l.row ≡ vec_capacity l.fn.row;
}

abbrev pub decreases-loop-strips : goal.decreases-loop-strips
decreases-loop-strips l = left l.strips.edges.items l.strips.y
