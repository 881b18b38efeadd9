use Rattle.std.proofs.Common.{◌≡◌, ◌+ℤ◌, drop, [], pos, arith, w64}
use Rattle.std.proofs.lemmas.Int.{ints, to_z-of_z}
use Rattle.std.proofs.lemmas.Grind.{common_steps}
use Rattle.lvl_grid.specs.Winding.{winding}
use Rattle.lvl_grid.proofs.Paths.{origin}
use Rattle.lvl_simplify.specs.Redraw.{edges_winding}
use Rattle.lvl_simplify.proofs.Redrawing.{edges_start, edges_step}
use Rattle.lvl_simplify.proofs.redraw.Edges.of.Goals as goal

pub loop-point-init : goal.loop-point-init
loop-point-init c =
    rw (to_z-of_z w64 c.args.left c.ranges.left, to_z-of_z w64 c.args.right c.ranges.right) (λ s le.
    edges_start s c.args.right c.new.result.items c.new-2.result.items c.args.ring.now origin
    c.new.ensures.items c.new-2.ensures.items c.requires)

pub loop-point-preserved : goal.loop-point-preserved
loop-point-preserved c =
    let l = to_z-of_z w64 c.args.left c.ranges.left in
    let r = to_z-of_z w64 c.args.right c.ranges.right in
    rw (l, r) (λ s le.
    edges_step s (edges_winding s c.args.right c.loop-point.edges) (edges_winding s c.args.right c.push.new.self)
    (winding c.args.ring.now s) c.loop-point.previous origin c.args.ring.now c.loop-point.point-index
    c.loop-point-test.true ((rw (l, r) at (c.in_ok-push.ensures s)) le) ((rw (l, r) at c.loop-point.invariant) s le))

pub returns : goal.returns
returns c = λ s le.
    let so_far = rw (to_z-of_z w64 c.args.left c.ranges.left, to_z-of_z w64 c.args.right c.ranges.right)
    at c.loop-point.invariant in
    let rest : drop c.loop-point.point-index c.args.ring.now ≡ [] = grind (arith, common_steps) in
    let all : edges_winding s c.args.right c.loop-point.edges +ℤ pos 0 ≡ winding c.args.ring.now s =
    rw rest at (so_far s le) in
    omega (arith, ints, all)
