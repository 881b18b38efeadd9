use Rattle.std.proofs.Common.{ℕ, pos, List, All, take, subst}
use Rattle.std.proofs.lemmas.List.{take_all}
use Rattle.std.proofs.lemmas.List.Elements.{All-more, All-weaker}
use Rattle.lvl_grid.specs.declared.point.Point.{Point}
use Rattle.lvl_names.specs.Shifts.{IsBetween}
use Rattle.lvl_cells.proofs.moved.reach_of.Goals as goal

pub loop-point-preserved : goal.loop-point-preserved
loop-point-preserved c =
    let points : List Point = c.args.points.now in
    let i : ℕ = c.loop-point.point-index in
    let P : Point → Type 0 = IsBetween c.corners-wider.result.0 c.corners-wider.result.1 in
    All-more P points i (record { x = pos 0; y = pos 0 }) c.loop-point-test.true
    (All-weaker (IsBetween c.loop-point.low c.loop-point.high) P (λ p w. c.corners-wider.ensures.wider p w)
    (take i points) c.loop-point.invariant) c.corners-wider.ensures.there

pub returns : goal.returns
returns c =
    subst (All (IsBetween c.loop-point.low c.loop-point.high))
    (take_all c.loop-point.point-index c.args.points.now c.loop-point-test.false) c.loop-point.invariant
