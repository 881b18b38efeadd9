use Rattle.std.proofs.Common.{◌<◌, ◌≤◌, List, length, subst, arith}
use Rattle.std.proofs.lemmas.List.{take_all}
use Rattle.lvl_grid.specs.Winding.{SomeCovers}
use Rattle.lvl_grid.proofs.Anyone.{Any-nil}
use Rattle.lvl_cells.specs.Cells.{PlainShape, Rings}
use Rattle.lvl_cells.specs.Coverage.{ShapeCovers}
use Rattle.lvl_changed.specs.inside.Shapes.{ShapesCover}
use Rattle.lvl_changed.proofs.Leaving.{shape_held}
use Rattle.lvl_changed.proofs.Growing.{grows_further, grows_itself}
use Rattle.lvl_changed.proofs.shapes.hold_extents.Goals as goal

pub loop-i-init : goal.loop-i-init
loop-i-init c = record {
  held = λ l s out covers. Any-nil (ShapeCovers SomeCovers l s) covers;
  kept = grows_itself c.args.area.now;
}

pub loop-i-preserved : goal.loop-i-preserved
loop-i-preserved c =
    let hs : List (PlainShape Rings) = c.args.shapes.now in
    let wide = c.in_ok-hold_shape.ensures.kept in
    let low : c.loop-i.i < length hs = omega (arith, c.loop-i-test.true, c.len-i-end.ensures) in
    record {
      held =
          shape_held c.args.view.now.pairs hs c.loop-i.i c.loop-i.area c.hold_shape.new.area low wide
          c.in_ok-hold_shape.ensures.held c.loop-i.invariant.held;
      kept =
          grows_further c.args.area.now c.loop-i.area c.hold_shape.new.area c.loop-i.invariant.kept wide;
    }

pub returns-clause-held : goal.returns-clause-held
returns-clause-held c = λ l s out covers.
    let hs : List (PlainShape Rings) = c.args.shapes.now in
    let long : length hs ≤ c.loop-i.i = omega (arith, c.loop-i-test.false, c.len-i-end.ensures) in
    subst (λ (xs : List (PlainShape Rings)). ShapesCover xs l s → ⊥) (take_all c.loop-i.i hs long)
    (c.loop-i.invariant.held l s out) covers
