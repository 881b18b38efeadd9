use Rattle.std.proofs.Common.{◌≡◌, ℤ, pos, ◌*ℤ◌, to_z, of_z, w64, FitsSigned, ap, arith, rules}
use Rattle.std.proofs.lemmas.Int.{ints, to_z-of_z}
use Rattle.lvl_witness.proofs.lattice.steps_within.Goals as goal

pub returns : goal.returns
returns c = λ i small inside.
    let x_fits : FitsSigned w64 c.args.step.x = search rules in
    let y_fits : FitsSigned w64 c.args.step.y = search rules in
    let times : ℤ → ℤ = λ a. pos i *ℤ a in
    let x : times (to_z w64 (of_z w64 c.args.step.x)) ≡ times c.args.step.x =
    ap times (to_z-of_z w64 c.args.step.x x_fits) in
    let y : times (to_z w64 (of_z w64 c.args.step.y)) ≡ times c.args.step.y =
    ap times (to_z-of_z w64 c.args.step.y y_fits) in
    c.common.ensures i
    (c.multiples-across.ensures i small (omega (arith, ints, x, inside.left, c.from-x.ensures))
    (omega (arith, ints, x, inside.right, c.from-x.ensures)))
    (c.multiples-along.ensures i small (omega (arith, ints, y, inside.below, c.from-y.ensures))
    (omega (arith, ints, y, inside.above, c.from-y.ensures)))
