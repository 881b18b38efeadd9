use Rattle.std.proofs.Common.{◌≡◌, ◌<◌, ◌++◌, ◌∷◌, [], List, length, ap, ◌∙◌, arith}
use Rattle.lvl_grid.specs.declared.point.Point.{Point}
use Rattle.lvl_names.specs.declared.layer.Layer.{Layer}
use Rattle.lvl_cells.specs.Cells.{PlainShape, Rings, shape_at}
use Rattle.lvl_changed.specs.inside.Shapes.{put_on}
use Rattle.lvl_changed.proofs.Leaving.{all_rings, ring_pushed, rings_none}
use Rattle.lvl_changed.proofs.left.push_shape.Goals as goal

pub loop-j-init : goal.loop-j-init
loop-j-init c = λ l s. rings_none c.args.left.now (put_on c.args.on (shape_at c.args.shapes.now c.args.i)) l s

pub loop-j-preserved : goal.loop-j-preserved
loop-j-preserved c = λ l s.
    let h : PlainShape Rings = put_on c.args.on (shape_at c.args.shapes.now c.args.i) in
    let of : Layer → List Point → List Point → PlainShape Rings =
    λ k r es. record { layer = k; figure = r ∷ []; shifts = es } in
    let r : List Point = c.ring-ring.result in
    let low : c.loop-j.j < length h.figure = omega (arith, c.loop-j-test.true, c.ring_count-j-end.ensures) in
    let points : c.deref.result.now ≡ r = c.deref.ensures.value ∙ c.in_ok-points.ensures in
    let shape : of c.args.on c.deref.result.now c.args.shifts.now ≡ of c.args.on r h.shifts =
    ap (λ q. of c.args.on q c.args.shifts.now) points ∙ ap (of c.args.on r) c.requires.shifts in
    ring_pushed c.args.left.now c.loop-j.left c.push_ring.new.self h h.figure c.loop-j.j r l s low
    c.ring-ring.ensures.value
    (c.in_ok-push_ring.ensures.added ∙ ap (λ (g : PlainShape Rings). c.loop-j.left ++ g ∷ []) shape)
    (c.loop-j.invariant l s)

pub returns : goal.returns
returns c = λ l s.
    let h : PlainShape Rings = put_on c.args.on (shape_at c.args.shapes.now c.args.i) in
    all_rings c.args.left.now c.loop-j.left h c.loop-j.j l s
    (omega (arith, c.loop-j-test.false, c.ring_count-j-end.ensures)) (c.loop-j.invariant l s)
