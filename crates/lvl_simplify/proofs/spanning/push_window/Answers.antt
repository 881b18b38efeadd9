use Rattle.std.proofs.Common.{◌<ℤ◌, arith, refl}
use Rattle.std.proofs.lemmas.Int.{ints, clamps}
use Rattle.std.proofs.lemmas.Result.{on_ok_weaker}
use Rattle.lvl_simplify.proofs.Joining.{window_pushed}
use Rattle.lvl_simplify.proofs.Rectangles.{covers_four}
use Rattle.lvl_simplify.proofs.spanning.push_window.Goals as goal

pub returns : goal.returns
returns c =
    let wide : c.args.window.x0 <ℤ c.args.window.x1 = grind (arith, ints) in
    let high : c.args.window.y0 <ℤ c.args.window.y1 = grind (arith, ints) in
    on_ok_weaker c.push.result
    (λ e s. window_pushed c.args.rings.now c.push.new.self _ c.args.window s e
    (covers_four _ _ _ _ c.args.window refl refl refl refl (omega (arith, ints, clamps, wide))
    (omega (arith, ints, clamps, high)) (omega (arith, ints, clamps, wide)) (omega (arith, ints, clamps, high)) s))
    c.push.ensures.ok
