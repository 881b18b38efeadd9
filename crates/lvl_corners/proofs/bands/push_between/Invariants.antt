use Rattle.std.proofs.Common.{◌≡◌, ◌≤◌, ◌+◌, ◌-◌, ◌+ℤ◌, ◌-ℤ◌, ℤ, pos, cond, drop, length}
use Rattle.std.specs.Ordering.{int_eq}
use Rattle.lvl_corners.specs.inside.Marks.{net, row_step}
use Rattle.lvl_corners.proofs.bands.push_between.Given as goal

-- the ends so far and those still to come are all ends
abbrev pub invariant-loop-i : goal.invariant-loop-i
invariant-loop-i l = record {
  ours : l.i ≤ length l.before;
  theirs : l.j ≤ length l.after;
  marks : (x z : ℤ) → net x z l.marks.items +ℤ cond (int_eq l.y z) (row_step x (drop l.j l.after) -ℤ row_step x (drop l.i
      l.before)) (pos 0) ≡ net x z l.fn.marks.items +ℤ cond (int_eq l.y z) (row_step x l.after -ℤ row_step x l.before)
      (pos 0);
}

-- there are fewer intervals still to come
abbrev pub decreases-loop-i : goal.decreases-loop-i
decreases-loop-i l = (length l.before - l.i) + (length l.after - l.j)
