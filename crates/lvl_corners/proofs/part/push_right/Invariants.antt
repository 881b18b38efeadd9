use Rattle.std.proofs.Common.{◌≡◌, ◌+ℤ◌, ◌<ℤ◌, ℤ, pos, cond, take}
use Rattle.lvl_corners.specs.Spans.{spanned}
use Rattle.lvl_corners.specs.inside.Marks.{net}
use Rattle.lvl_corners.proofs.part.push_right.Given as goal

-- those of the marks so far are appended
abbrev pub invariant-loop-mark : goal.invariant-loop-mark
invariant-loop-mark l =
    (u v : ℤ) → l.x <ℤ u → u <ℤ l.end → net u v l.to.items
    ≡ net u v l.fn.to.items +ℤ cond (spanned l.rows v) (net u v (take l.mark-index l.marks)) (pos 0)
