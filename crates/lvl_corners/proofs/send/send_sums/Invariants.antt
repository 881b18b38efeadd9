use Rattle.std.proofs.Common.{List, All}
use Rattle.lvl_corners.specs.declared.corner.Corner.{Corner}
use Rattle.lvl_corners.specs.Corners.{FitsCorner}
use Rattle.lvl_corners.specs.inside.Sums.{AreSummed}
use Rattle.lvl_corners.proofs.send.send_sums.Given as goal

-- the sink has taken the corners at the points so far
abbrev pub invariant-loop-mark : goal.invariant-loop-mark
invariant-loop-mark g l = record {
  sent : List Corner;
  taken : g.S.CornerSink.takes l.fn.sink l.sink sent;
  fits : All FitsCorner sent;
  summed : AreSummed l.marks l.mark-index sent l.sum;
}
