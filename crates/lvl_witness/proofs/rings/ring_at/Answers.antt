use Rattle.std.proofs.Common.{◌≡◌, [], IfNone, sym, subst, ◌∙◌, arith}
use Rattle.std.proofs.lemmas.Option.{get_or_from_slice_get}
use Rattle.lvl_grid.specs.declared.point.Square.{Square}
use Rattle.lvl_grid.specs.declared.map.Map.{Map}
use Rattle.lvl_cells.specs.Cells.{PlainShape, Rings, shape_at}
use Rattle.lvl_flat.specs.inside.Drawn.{RingPlacesCover}
use Rattle.lvl_witness.proofs.Before.{before_more, none_any}
use Rattle.lvl_witness.proofs.rings.ring_at.Goals as goal

pub loop-j-preserved : goal.loop-j-preserved
loop-j-preserved c =
    let m : Map = c.args.map.now in
    let q : Square = c.args.square in
    let h : PlainShape Rings = shape_at c.args.shapes.now c.args.i in
    let none : ¬ RingPlacesCover m c.args.shifts.now q c.ring.result =
    subst (λ o. IfNone o (¬ RingPlacesCover m c.args.shifts.now q c.ring.result)) c.in_default.is
    c.in_ok-place.ensures.none in
    before_more (λ ring. ¬ RingPlacesCover m h.shifts q ring) h.figure c.loop-j.j c.loop-j.invariant
    (λ ring at covers. none (let one : ring ≡ c.ring.result =
    sym (c.ring.ensures.value ∙ get_or_from_slice_get h.figure c.loop-j.j ring [] at) in
    let there : RingPlacesCover m h.shifts q c.ring.result =
    subst (λ r. RingPlacesCover m h.shifts q r) one covers in
    subst (λ es. RingPlacesCover m es q c.ring.result) (sym c.requires.shifts) there))

pub returns-clause-none : goal.returns-clause-none
returns-clause-none c =
    let m : Map = c.args.map.now in
    let q : Square = c.args.square in
    let h : PlainShape Rings = shape_at c.args.shapes.now c.args.i in
    none_any (λ ring. RingPlacesCover m h.shifts q ring) h.figure c.loop-j.j c.loop-j.invariant
    (omega (arith, c.loop-j-test.false, c.ring_count-j-end.ensures))
