use Rattle.std.proofs.Common.{All, take}
use Rattle.lvl_names.specs.Shifts.{IsBetween}
use Rattle.lvl_names.specs.inside.Keeping.{IsReached}
use Rattle.lvl_witness.proofs.boxes.box_of.Given as goal

-- the corners are those of the box of the points so far
abbrev pub invariant-loop-k : goal.invariant-loop-k
invariant-loop-k l = record {
  between : All (IsBetween l.low l.high) (take l.k l.ring);
  reached : IsReached l.low l.high l.ring;
}
