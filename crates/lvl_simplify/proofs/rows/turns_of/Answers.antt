use Rattle.std.proofs.Common.{◌≡◌, ◌+ℤ◌, ◌-◌, drop, [], length, pos, arith, w64}
use Rattle.std.proofs.lemmas.Int.{ints, to_z-of_z}
use Rattle.std.proofs.lemmas.Grind.{common_steps}
use Rattle.lvl_grid.specs.Winding.{winding}
use Rattle.lvl_grid.proofs.Paths.{origin}
use Rattle.lvl_simplify.specs.Rows.{turning}
use Rattle.lvl_simplify.proofs.Turns.{turns_start, turns_step}
use Rattle.lvl_simplify.proofs.rows.turns_of.Goals as goal

pub loop-point-init : goal.loop-point-init
loop-point-init c =
    let ring = c.args.ring.now in
    rw (to_z-of_z w64 c.args.left c.ranges.left, to_z-of_z w64 c.args.right c.ranges.right) (record {
      previous = c.requires.borders (length ring - 1) _ (omega (arith, c.requires.some));
      winds = λ s between. turns_start s c.new-turns.result.items ring origin c.new-turns.ensures.items c.requires.some;
    })

pub loop-point-preserved : goal.loop-point-preserved
loop-point-preserved c =
    let l = to_z-of_z w64 c.args.left c.ranges.left in
    let r = to_z-of_z w64 c.args.right c.ranges.right in
    let so_far = rw (l, r) at c.loop-point.invariant in
    rw (l, r) (record {
      previous = c.requires.borders c.loop-point.point-index _ c.loop-point-test.true;
      winds = λ s between.
          turns_step c.args.left c.args.right s c.loop-point.turns.items c.push_turns.new.turns.items
          c.loop-point.previous origin c.args.ring.now c.loop-point.point-index (winding c.args.ring.now s)
          c.loop-point-test.true so_far.previous between (rw r at (c.in_ok-push_turns.ensures s.y))
          (so_far.winds s between);
    })

pub returns : goal.returns
returns c = λ s between.
    let l = to_z-of_z w64 c.args.left c.ranges.left in
    let r = to_z-of_z w64 c.args.right c.ranges.right in
    let so_far = rw (l, r) at c.loop-point.invariant in
    let rest : drop c.loop-point.point-index c.args.ring.now ≡ [] = grind (arith, common_steps) in
    let all : turning s.y c.loop-point.turns.items +ℤ pos 0 ≡ winding c.args.ring.now s =
    rw rest at (so_far.winds s between) in
    omega (arith, ints, all)
