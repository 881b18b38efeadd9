use Rattle.std.proofs.Common.{arith}
use Rattle.std.proofs.lemmas.Int.{ints, clamps}
use Rattle.lvl_simplify.proofs.Rectangles.{covers_four}
use Rattle.lvl_simplify.proofs.spanning.window_of_four.Goals as goal

pub returns : goal.returns
returns c =
    covers_four c.args.a c.args.b c.args.c c.args.d _ (grind (arith, ints)) (grind (arith, ints)) (grind (arith, ints))
    (grind (arith, ints)) (omega (arith, ints, clamps, c.min.ensures.value))
    (omega (arith, ints, clamps, c.min-2.ensures.value)) (omega (arith, ints, clamps, c.max.ensures.value))
    (omega (arith, ints, clamps, c.max-2.ensures.value))
