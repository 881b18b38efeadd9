use Rattle.std.proofs.Common.{take}
use Rattle.lvl_changed.specs.inside.Figures.{AreLeft}
use Rattle.lvl_changed.proofs.left.alone.Given as goal

-- those of the shapes so far are left that the others don't have
abbrev pub invariant-loop-i : goal.invariant-loop-i
invariant-loop-i l =
    AreLeft l.seen.view.now.pairs (take l.i l.seen.shapes.now) l.others.view.now.pairs l.others.shapes.now l.left
