use Rattle.std.proofs.Common.{All, inl, inr, arith, subst, take, w64}
use Rattle.std.proofs.lemmas.Int.{ints, to_z-of_z}
use Rattle.std.proofs.lemmas.List.{take_all}
use Rattle.std.proofs.lemmas.List.Elements.{All-more, All-nil}
use Rattle.lvl_grid.proofs.Paths.{origin}
use Rattle.lvl_simplify.specs.Rows.{IsAtBorder}
use Rattle.lvl_simplify.proofs.rows.is_at_borders.Goals.{else-point-left-via-then-point-left+else-point-right}
use Rattle.lvl_simplify.proofs.rows.is_at_borders.Goals.{else-point-left-via-else-point-left}
use Rattle.lvl_simplify.proofs.rows.is_at_borders.Goals as goal

pub loop-point-init : goal.loop-point-init
loop-point-init c =
    rw (to_z-of_z w64 c.args.left c.ranges.left, to_z-of_z w64 c.args.right c.ranges.right)
    (All-nil (IsAtBorder c.args.left c.args.right))

pub loop-point-preserved : goal.loop-point-preserved
loop-point-preserved c =
    let l = to_z-of_z w64 c.args.left c.ranges.left in
    let r = to_z-of_z w64 c.args.right c.ranges.right in
    let so_far : All (IsAtBorder c.args.left c.args.right) (take c.loop-point.point-index c.args.ring.now) =
    rw (l, r) at c.loop-point.invariant in
    rw (l, r)
    (All-more (IsAtBorder c.args.left c.args.right) c.args.ring.now c.loop-point.point-index origin
    c.loop-point-test.true so_far (elim c.else-point-left.branch [
      | else-point-left-via-then-point-left+else-point-right w ↦ inr (grind (arith, ints))
      | else-point-left-via-else-point-left w ↦ inl (grind (arith, ints))
    ]))

pub returns : goal.returns
returns c = λ t.
    let l = to_z-of_z w64 c.args.left c.ranges.left in
    let r = to_z-of_z w64 c.args.right c.ranges.right in
    subst (All (IsAtBorder c.args.left c.args.right))
    (take_all c.loop-point.point-index c.args.ring.now c.loop-point-test.false) (rw (l, r) at c.loop-point.invariant)
