use Rattle.lvl_changed.proofs.Sums.{sums_outer}
use Rattle.lvl_changed.proofs.lattices.sums.Goals as goal
use Rattle.std.proofs.Common.{subst, sym, List}
use Rattle.lvl_grid.specs.declared.point.Point.{Point}
use Rattle.lvl_changed.specs.inside.Shifts.{AreSums}

pub returns-then-is_single : goal.returns-then-is_single
returns-then-is_single c =
    let one = c.is_single.ensures.0 c.if-is_single.true in
    subst (λ (xs : List Point). AreSums c.args.by.now c.args.outer.now c.args.inner.now xs) (sym c.in_ok-clone.ensures.cases)
    (sums_outer c.args.by.now c.args.outer.now c.args.inner.now one)
