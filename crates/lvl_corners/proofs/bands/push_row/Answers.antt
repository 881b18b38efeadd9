use Rattle.std.proofs.Common.{◌≡◌, drop, [], pos, arith, refl, FitsSigned, to_z, of_z}
use Rattle.std.specs.Int.{w64}
use Rattle.std.specs.Ordering.{int_eq}
use Rattle.std.proofs.lemmas.Int.{ints, to_z-of_z}
use Rattle.std.proofs.lemmas.Grind.{common_steps}
use Rattle.lvl_corners.proofs.Nets.{row_more, row_none}
use Rattle.lvl_corners.proofs.bands.push_row.Goals as goal

pub loop-interval-init : goal.loop-interval-init
loop-interval-init c = λ x z. refl

pub loop-interval-preserved : goal.loop-interval-preserved
loop-interval-preserved c = λ x z.
    row_more x (to_z w64 (of_z w64 c.args.y)) z _ c.args.is_first c.loop-interval.marks.items
    c.push_interval.new.marks.items c.args.intervals.now c.loop-interval.interval-index (pos 0, pos 0)
    c.loop-interval-test.true (c.in_ok-push_interval.ensures x z) (c.loop-interval.invariant x z)

pub returns : goal.returns
returns c =
    let rest : drop c.loop-interval.interval-index c.args.intervals.now ≡ [] = grind (arith, common_steps) in
    let y_fits : FitsSigned w64 c.args.y = c.ranges.y in
    λ x z.
    let all = simp to_z-of_z at (rw rest at (c.loop-interval.invariant x z)) in
    let none = row_none c.args.is_first (int_eq c.args.y z) in
    omega (arith, ints, all, none)
