use Rattle.std.proofs.Common.{◌≡◌, List, Some, slice_get, Contains, IfNone, sym, ap, subst, ◌∙◌, arith, ℕ, IfSome}
use Rattle.lvl_grid.specs.declared.point.Square.{Square}
use Rattle.lvl_grid.specs.declared.map.Map.{Map}
use Rattle.lvl_names.specs.declared.layer.Layer.{Layer}
use Rattle.lvl_cells.specs.Cells.{PlainShape, Rings, shape_at}
use Rattle.lvl_cells.proofs.Sequences.{one_answer}
use Rattle.lvl_flat.specs.inside.Drawn.{ShapePlacesCover}
use Rattle.std.proofs.lemmas.Option.{slice_get_within}
use Rattle.lvl_witness.specs.inside.Rings.{IsCoveringPart}
use Rattle.lvl_witness.proofs.Boxing.{covering_ring}
use Rattle.lvl_witness.proofs.Before.{before_more, none_any, shape_there}
use Rattle.lvl_witness.proofs.rings.find_ring.Goals as goal

pub loop-shape-preserved-then-not-is_listed : goal.loop-shape-preserved-then-not-is_listed
loop-shape-preserved-then-not-is_listed c =
    let layers : List Layer = c.args.layers.now in
    let shapes : List (PlainShape Rings) = c.args.shapes.now in
    let at : slice_get shapes c.loop-shape.shape ≡ Some (shape_at shapes c.loop-shape.shape) =
    shape_there shapes c.loop-shape.shape (omega (arith, c.loop-shape-test.true, c.len-shape-end.ensures)) in
    before_more (λ h. Contains layers h.layer → ¬ ShapePlacesCover c.args.map.now c.args.square h) shapes
    c.loop-shape.shape c.loop-shape.invariant
    (λ h there listed covers.
    let one : h ≡ shape_at shapes c.loop-shape.shape = one_answer there at in
    let layer : h.layer ≡ c.layer.result = ap (λ (x : PlainShape Rings). x.layer) one ∙ sym c.layer.ensures in
    let yes = c.is_listed.ensures.1 (subst (λ l. Contains layers l) layer listed) in
    let no = c.if-not-is_listed.true in
    cc)

pub loop-shape-preserved : goal.loop-shape-preserved
loop-shape-preserved c =
    let m : Map = c.args.map.now in
    let q : Square = c.args.square in
    let shapes : List (PlainShape Rings) = c.args.shapes.now in
    let shape : PlainShape Rings = shape_at shapes c.loop-shape.shape in
    let at : slice_get shapes c.loop-shape.shape ≡ Some shape =
    shape_there shapes c.loop-shape.shape (omega (arith, c.loop-shape-test.true, c.len-shape-end.ensures)) in
    let none : ¬ ShapePlacesCover m q shape =
    subst (λ o. IfNone o (¬ ShapePlacesCover m q shape)) c.in_default.is c.in_ok-ring.ensures.none in
    before_more (λ h. Contains c.args.layers.now h.layer → ¬ ShapePlacesCover m q h) shapes c.loop-shape.shape
    c.loop-shape.invariant
    (λ h there listed covers. none (subst (ShapePlacesCover m q) (one_answer there at) covers))

pub returns-clause-none : goal.returns-clause-none
returns-clause-none c =
    let m : Map = c.args.map.now in
    let q : Square = c.args.square in
    none_any (λ h. Contains c.args.layers.now h.layer × ShapePlacesCover m q h) c.args.shapes.now c.loop-shape.shape
    (λ k h below at both. c.loop-shape.invariant k h below at both.0 both.1)
    (omega (arith, c.loop-shape-test.false, c.len-shape-end.ensures))

pub placed_ring-requires : goal.placed_ring-requires
placed_ring-requires c =
    let shape : PlainShape Rings = shape_at c.args.shapes.now c.loop-shape.shape in
    let part : IsCoveringPart c.args.map.now c.args.square shape (c.in-Some.ring, c.in-Some.place) =
    subst (λ o. IfSome o (IsCoveringPart c.args.map.now c.args.square shape)) c.in-Some.is c.in_ok-ring.ensures.some in
    record {
      shape = omega (arith, c.loop-shape-test.true, c.len-shape-end.ensures);
      place = slice_get_within shape.shifts c.in-Some.place part.place.shift part.place.shift_is;
      ring = slice_get_within shape.figure c.in-Some.ring part.ring part.ring_is;
    }

pub returns-in-Some-clause-some : goal.returns-in-Some-clause-some
returns-in-Some-clause-some c =
    let m : Map = c.args.map.now in
    let q : Square = c.args.square in
    let layers : List Layer = c.args.layers.now in
    let shapes : List (PlainShape Rings) = c.args.shapes.now in
    let i : ℕ = c.loop-shape.shape in
    let shape : PlainShape Rings = shape_at shapes i in
    let at : slice_get shapes i ≡ Some shape =
    shape_there shapes i (omega (arith, c.loop-shape-test.true, c.len-shape-end.ensures)) in
    let part : IsCoveringPart m q shape (c.in-Some.ring, c.in-Some.place) =
    subst (λ o. IfSome o (IsCoveringPart m q shape)) c.in-Some.is c.in_ok-ring.ensures.some in
    let listed : Contains layers shape.layer =
    subst (λ l. Contains layers l) c.layer.ensures (c.is_listed.ensures.0 c.if-not-is_listed.false) in
    covering_ring shapes m layers q i c.in-Some.ring c.in-Some.place c.placed_ring.result at listed part
    c.placed_ring.ensures
