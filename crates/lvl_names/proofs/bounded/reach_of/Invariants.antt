use Rattle.std.proofs.Common.{All, take}
use Rattle.lvl_names.specs.Shifts.{IsBetween}
use Rattle.lvl_names.specs.inside.Keeping.{IsReached}
use Rattle.lvl_names.proofs.bounded.reach_of.Given as goal

-- the bounds are those of zero and the shifts so far
abbrev pub invariant-loop-shift : goal.invariant-loop-shift
invariant-loop-shift l = record {
  between : All (IsBetween l.low l.high) (take l.shift-index l.shifts);
  reached : IsReached l.low l.high l.shifts;
}
