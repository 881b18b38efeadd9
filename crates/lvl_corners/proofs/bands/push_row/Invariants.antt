use Rattle.std.proofs.Common.{◌≡◌, ◌+ℤ◌, ℤ, pos, cond, drop}
use Rattle.std.specs.Ordering.{int_eq}
use Rattle.lvl_corners.specs.inside.Marks.{net, signed, row_step}
use Rattle.lvl_corners.proofs.bands.push_row.Given as goal

-- the ends so far and those still to come are all ends
abbrev pub invariant-loop-interval : goal.invariant-loop-interval
invariant-loop-interval l =
    (x z : ℤ) → net x z l.marks.items +ℤ cond (int_eq l.y z) (signed l.is_first (row_step x (drop l.interval-index
    l.intervals)))
    (pos 0) ≡ net x z l.fn.marks.items +ℤ cond (int_eq l.y z) (signed l.is_first (row_step x l.intervals)) (pos 0)
