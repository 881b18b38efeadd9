use Rattle.std.proofs.Common.{◌<◌, ◌≤◌, length, subst, arith, ap, ◌∙◌}
use Rattle.std.proofs.lemmas.List.{take_all}
use Rattle.lvl_view.specs.Views.{target_of}
use Rattle.lvl_cells.specs.Cells.{PlainShape, Rings, shape_at}
use Rattle.lvl_changed.proofs.Leaving.{no_rings, ring_held, RingsCover}
use Rattle.lvl_changed.proofs.Growing.{grows_further, grows_itself}
use Rattle.lvl_changed.proofs.shapes.hold_shape.Goals as goal

pub loop-j-init : goal.loop-j-init
loop-j-init c = record {
  held = λ l s out covers. no_rings (shape_at c.args.shapes.now c.args.i) l s covers;
  kept = grows_itself c.args.area.now;
}

pub loop-j-preserved : goal.loop-j-preserved
loop-j-preserved c =
    let h : PlainShape Rings = shape_at c.args.shapes.now c.args.i in
    let wide = c.in_ok-hold_ring.ensures.kept in
    let low : c.loop-j.j < length h.figure = omega (arith, c.loop-j-test.true, c.ring_count-j-end.ensures) in
    record {
      held =
          ring_held c.args.view.now.pairs h h.figure c.loop-j.j c.ring-ring.result c.reach.result.0 c.reach.result.1
          c.target-layer.result c.loop-j.area c.hold_ring.new.area low c.ring-ring.ensures.value
          (c.target-layer.ensures ∙ ap (target_of c.args.view.now.pairs) c.layer.ensures) c.reach.ensures wide c.in_ok-hold_ring.ensures.held
          c.loop-j.invariant.held;
      kept =
          grows_further c.args.area.now c.loop-j.area c.hold_ring.new.area c.loop-j.invariant.kept wide;
    }

pub returns-clause-held : goal.returns-clause-held
returns-clause-held c = λ l s out covers.
    let h : PlainShape Rings = shape_at c.args.shapes.now c.args.i in
    let long : length h.figure ≤ c.loop-j.j = omega (arith, c.loop-j-test.false, c.ring_count-j-end.ensures) in
    subst (λ (rs : Rings). RingsCover h rs l s → ⊥) (take_all c.loop-j.j h.figure long)
    (c.loop-j.invariant.held l s out) covers
