use Rattle.std.proofs.Common.{◌<◌, ◌+◌, ℕ, List, take, length, sym, subst, arith}
use Rattle.lvl_cells.specs.Cells.{PlainShape, Rings}
use Rattle.lvl_view.specs.declared.map.LayerPair.{LayerPair}
use Rattle.lvl_changed.specs.inside.Figures.{AreLeft}
use Rattle.lvl_changed.proofs.Leaving.{left_among, left_more}
use Rattle.lvl_changed.proofs.left.alone.Goals.{then-not-has_shape+in_ok-push_left, else-not-has_shape}
use Rattle.lvl_changed.proofs.left.alone.Goals as goal

pub loop-i-preserved : goal.loop-i-preserved
loop-i-preserved c =
    let xs : List (PlainShape Rings) = c.args.seen.shapes.now in
    let ys : List (PlainShape Rings) = c.args.others.shapes.now in
    let pairs : List LayerPair = c.args.seen.view.now.pairs in
    let others : List LayerPair = c.args.others.view.now.pairs in
    let i : ℕ = c.loop-i.i in
    let low : i < length xs = omega (arith, c.loop-i-test.true, c.len-i-end.ensures) in
    elim c.if-not-has_shape.branch [
      | then-not-has_shape+in_ok-push_left w ↦
          subst (λ (hs : List (PlainShape Rings)). AreLeft pairs (take (i + 1) xs) others ys hs) (sym w.left-is)
          (left_more pairs others xs ys c.loop-i.left w.push_left.new.left i w.target-on.result low (rw w.layer.ensures at w.target-on.ensures)
          w.in_ok-push_left.ensures
          c.loop-i.invariant)
      | else-not-has_shape w ↦
          subst (λ (hs : List (PlainShape Rings)). AreLeft pairs (take (i + 1) xs) others ys hs) (sym w.left-is)
          (left_among pairs others xs ys c.loop-i.left i low (c.has_shape.ensures w.if-not-has_shape.false)
          c.loop-i.invariant)
    ]
