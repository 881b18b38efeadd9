use Rattle.std.proofs.Common.{◌≡◌, ◌<◌, ◌≤◌, ◌+◌, ℕ, List, Bool, take, length, true, false, subst, arith}
use Rattle.std.proofs.lemmas.List.{take_all}
use Rattle.lvl_names.specs.declared.layer.Layer.{Layer}
use Rattle.lvl_cells.specs.Cells.{PlainShape, Rings, shape_at}
use Rattle.lvl_view.specs.declared.map.LayerPair.{LayerPair}
use Rattle.lvl_view.specs.Moved.{IsMoved}
use Rattle.lvl_compare.specs.Tops.{Draws}
use Rattle.lvl_changed.specs.declared.arrays.Array.{Array}
use Rattle.lvl_changed.specs.inside.Opening.{Adds, IsUnder}
use Rattle.lvl_changed.specs.inside.Shapes.{FigureCovers, ShapesCover}
use Rattle.lvl_changed.proofs.Moving.{moved_more}
use Rattle.lvl_changed.proofs.Under.{adds_more, adds_part, shapes_under, shapes_within, under_more}
use Rattle.lvl_changed.proofs.opening.open_shapes.Goals as goal

-- the shapes up to an index, under the array
abbrev Upto : List LayerPair → Array → List (PlainShape Rings) → ℕ → Draws
Upto pairs a hs k = IsMoved pairs (λ l. IsUnder a (ShapesCover (take k hs) l))

pub loop-i-preserved : goal.loop-i-preserved
loop-i-preserved c =
    let hs : List (PlainShape Rings) = c.args.shapes.now in
    let a : Array = c.args.array.now in
    let pairs : List LayerPair = c.args.view.now.pairs in
    let i : ℕ = c.loop-i.i in
    let on : Layer = c.target-on.result in
    let low : i < length hs = omega (arith, c.loop-i-test.true, c.len-i-end.ensures) in
    let shape : Draws = λ l s. (on ≡ l) × IsUnder a (FigureCovers (shape_at hs i)) s in
    let cur : Draws = ShapesCover c.loop-i.opened in
    let new : Draws = ShapesCover c.open_shape.new.opened in
    let step : Adds cur new shape true =
    subst (λ (b : Bool). Adds cur new shape b) c.if-not-branch.false c.in_ok-open_shape.ensures in
    adds_more (ShapesCover c.args.opened.now) cur new (Upto pairs a hs i) shape (Upto pairs a hs (i + 1)) true
    c.loop-i.invariant step
    (shapes_under pairs a hs i on low (rw c.layer.ensures at c.target-on.ensures))

pub returns-then-not-branch : goal.returns-then-not-branch
returns-then-not-branch c =
    let hs : List (PlainShape Rings) = c.args.shapes.now in
    let a : Array = c.args.array.now in
    let pairs : List LayerPair = c.args.view.now.pairs in
    let i : ℕ = c.loop-i.i in
    let on : Layer = c.target-on.result in
    let low : i < length hs = omega (arith, c.loop-i-test.true, c.len-i-end.ensures) in
    let shape : Draws = λ l s. (on ≡ l) × IsUnder a (FigureCovers (shape_at hs i)) s in
    let old : Draws = ShapesCover c.args.opened.now in
    let cur : Draws = ShapesCover c.loop-i.opened in
    let new : Draws = ShapesCover c.open_shape.new.opened in
    let step : Adds cur new shape false =
    subst (λ (b : Bool). Adds cur new shape b) c.if-not-branch.true c.in_ok-open_shape.ensures in
    let more : Adds old new (Upto pairs a hs (i + 1)) false =
    adds_more old cur new (Upto pairs a hs i) shape (Upto pairs a hs (i + 1)) false c.loop-i.invariant step
    (shapes_under pairs a hs i on low (rw c.layer.ensures at c.target-on.ensures)) in
    adds_part old new (Upto pairs a hs (i + 1)) (IsMoved pairs (λ l. IsUnder a (ShapesCover hs l))) more
    (λ l s. moved_more pairs (λ k. IsUnder a (ShapesCover (take (i + 1) hs) k)) (λ k. IsUnder a (ShapesCover hs k)) s s
    (λ k. under_more a (ShapesCover (take (i + 1) hs) k) (ShapesCover hs k) s (shapes_within hs (i + 1) k)) l)

pub returns : goal.returns
returns c =
    let hs : List (PlainShape Rings) = c.args.shapes.now in
    let long : length hs ≤ c.loop-i.i = omega (arith, c.loop-i-test.false, c.len-i-end.ensures) in
    subst
    (λ (xs : List (PlainShape Rings)). Adds (ShapesCover c.args.opened.now) (ShapesCover c.loop-i.opened)
    (IsMoved c.args.view.now.pairs (λ l. IsUnder c.args.array.now (ShapesCover xs l))) true)
    (take_all c.loop-i.i hs long) c.loop-i.invariant
