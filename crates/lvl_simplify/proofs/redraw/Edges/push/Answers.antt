use Rattle.std.proofs.Common.{◌≡◌, ◌≤ℤ◌, arith, rules, w64, FitsSigned}
use Rattle.std.proofs.lemmas.Int.{ints, to_z-of_z}
use Rattle.std.proofs.lemmas.Result.{on_ok_weaker}
use Rattle.lvl_simplify.specs.Redraw.{if_right, winds, winding_by, edges_winding}
use Rattle.lvl_simplify.specs.Rows.{turning}
use Rattle.lvl_simplify.proofs.Redrawing.{added_inside, added_outside, more_first, border_pushed}
use Rattle.lvl_simplify.proofs.redraw.Edges.push.Goals as goal

pub returns-then-from-left : goal.returns-then-from-left
returns-then-from-left c = λ s le.
    let before : c.args.from.x ≤ℤ c.args.left = grind (arith, ints) in
    added_outside s c.args.from.x c.args.from.y c.args.to.y (edges_winding s c.args.right c.args.self.now)
    (omega (arith, ints, before, le))

pub returns-then-from-right : goal.returns-then-from-right
returns-then-from-right c =
    let old = c.args.self.now in
    let at : c.args.from.x ≡ c.args.right = grind (arith, ints) in
    on_ok_weaker c.push_turns.result
    (λ reported s le.
    more_first (winding_by s old.inner.items) _ _ (winds s c.args.from.x c.args.from.y c.args.to.y)
    (border_pushed s c.args.right c.args.from c.args.to (turning s.y old.turns.items)
    (turning s.y c.push_turns.new.turns.items) at (reported s.y)))
    (rw (to_z-of_z w64 _ c.ranges.right) at c.push_turns.ensures)

pub returns : goal.returns
returns c =
    let old = c.args.self.now in
    let x_fits : FitsSigned w64 c.args.from.x = search rules in
    let from_fits : FitsSigned w64 c.args.from.y = search rules in
    let to_fits : FitsSigned w64 c.args.to.y = search rules in
    on_ok_weaker c.push_upright.result
    (λ reported s le.
    added_inside (winding_by s c.push_upright.new.uprights.items) (winding_by s old.inner.items)
    (if_right s c.args.right (turning s.y old.turns.items)) (winds s c.args.from.x c.args.from.y c.args.to.y)
    (reported s))
    (rw (to_z-of_z w64 _ x_fits, to_z-of_z w64 _ from_fits, to_z-of_z w64 _ to_fits) at c.push_upright.ensures)
