use Rattle.std.proofs.Common.{◌≡◌, ◌<◌, ◌≤◌, ◌+◌, ℕ, Bool, take, length, true, false, subst, arith}
use Rattle.std.proofs.lemmas.List.{take_all}
use Rattle.lvl_names.specs.declared.layer.Layer.{Layer}
use Rattle.lvl_cells.specs.Cells.{PlainShape, Rings, shape_at}
use Rattle.lvl_compare.specs.Tops.{Draws}
use Rattle.lvl_changed.specs.declared.arrays.Array.{Array}
use Rattle.lvl_changed.specs.inside.Opening.{Adds, IsUnder, RingCovers}
use Rattle.lvl_changed.specs.inside.Shapes.{FigureCovers, ShapesCover}
use Rattle.lvl_changed.proofs.Under.{adds_more, adds_part, figure_under, figure_within, under_more, with_rings}
use Rattle.lvl_changed.proofs.opening.open_shape.Goals as goal

pub ring_count-j-end-requires : goal.ring_count-j-end-requires
ring_count-j-end-requires c = c.requires

pub loop-j-preserved : goal.loop-j-preserved
loop-j-preserved c =
    let h : PlainShape Rings = shape_at c.args.shapes.now c.args.i in
    let a : Array = c.args.array.now in
    let j : ℕ = c.loop-j.j in
    let on : Layer = c.args.on in
    let low : j < length h.figure = omega (arith, c.loop-j-test.true, c.ring_count-j-end.ensures) in
    let upto : ℕ → Draws = λ k l s. (on ≡ l) × IsUnder a (FigureCovers (with_rings h (take k h.figure))) s in
    let ring : Draws = λ l s. (on ≡ l) × RingCovers a.by c.ring.result c.in-Some.shifts s in
    let old : Draws = ShapesCover c.args.opened.now in
    let cur : Draws = ShapesCover c.loop-j.opened in
    let new : Draws = ShapesCover c.open_ring.new.shapes in
    let step : Adds cur new ring true = subst (λ (b : Bool). Adds cur new ring b) c.if-not-branch.false c.in_ok-open_ring.ensures in
    adds_more old cur new (upto j) ring (upto (j + 1)) true c.loop-j.invariant step
    (figure_under a h j c.ring.result c.in-Some.shifts on low c.ring.ensures.value (rw c.in-Some.is at c.in_ok-shifts.ensures))

pub returns-then-not-branch : goal.returns-then-not-branch
returns-then-not-branch c =
    let h : PlainShape Rings = shape_at c.args.shapes.now c.args.i in
    let a : Array = c.args.array.now in
    let j : ℕ = c.loop-j.j in
    let on : Layer = c.args.on in
    let low : j < length h.figure = omega (arith, c.loop-j-test.true, c.ring_count-j-end.ensures) in
    let upto : ℕ → Draws = λ k l s. (on ≡ l) × IsUnder a (FigureCovers (with_rings h (take k h.figure))) s in
    let ring : Draws = λ l s. (on ≡ l) × RingCovers a.by c.ring.result c.in-Some.shifts s in
    let whole : Draws = λ l s. (on ≡ l) × IsUnder a (FigureCovers h) s in
    let old : Draws = ShapesCover c.args.opened.now in
    let cur : Draws = ShapesCover c.loop-j.opened in
    let new : Draws = ShapesCover c.open_ring.new.shapes in
    let step : Adds cur new ring false = subst (λ (b : Bool). Adds cur new ring b) c.if-not-branch.true c.in_ok-open_ring.ensures in
    let more : Adds old new (upto (j + 1)) false =
    adds_more old cur new (upto j) ring (upto (j + 1)) false c.loop-j.invariant step
    (figure_under a h j c.ring.result c.in-Some.shifts on low c.ring.ensures.value (rw c.in-Some.is at c.in_ok-shifts.ensures)) in
    adds_part old new (upto (j + 1)) whole more
    (λ l s e. (
      e.0,
      under_more a (FigureCovers (with_rings h (take (j + 1) h.figure))) (FigureCovers h) s
          (figure_within h (j + 1)) e.1,
    ))

pub returns : goal.returns
returns c =
    let h : PlainShape Rings = shape_at c.args.shapes.now c.args.i in
    let a : Array = c.args.array.now in
    let long : length h.figure ≤ c.loop-j.j = omega (arith, c.loop-j-test.false, c.ring_count-j-end.ensures) in
    subst
    (λ (rs : Rings). Adds (ShapesCover c.args.opened.now) (ShapesCover c.loop-j.opened)
    (λ l s. (c.args.on ≡ l) × IsUnder a (FigureCovers (with_rings h rs)) s) true) (take_all c.loop-j.j h.figure long)
    c.loop-j.invariant
