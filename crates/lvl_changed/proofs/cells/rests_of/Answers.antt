use Rattle.std.proofs.Common.{◌≡◌, List, Some, ap, slice_get, subst}
use Rattle.lvl_cells.specs.Cells.{PlainCell, PlainShape, Rings}
use Rattle.lvl_cells.specs.Checks.{Settled}
use Rattle.lvl_view.specs.declared.map.LayerPair.{LayerPair}
use Rattle.lvl_changed.specs.inside.Figures.{AreLeft}
use Rattle.lvl_changed.proofs.Remaining.{rests_same}
use Rattle.lvl_changed.proofs.cells.rests_of.Goals as goal

pub returns : goal.returns
returns c = λ found l s out same.
    let ours : List (PlainCell Rings) = c.args.pair.now.first.now.cells in
    let theirs : List (PlainCell Rings) = c.args.pair.now.second.now.cells in
    let pairs : List LayerPair = c.args.pair.now.view.now.pairs in
    let none : List LayerPair = c.whole-whole.result.pairs in
    let x : PlainCell Rings = c.cell.result.now in
    let y : PlainCell Rings = c.cell-2.result.now in
    let at : slice_get ours c.args.ours ≡ Some x =
    subst (λ (z : Settled). slice_get z.cells c.args.ours ≡ Some x) c.checked.ensures.library c.cell.ensures in
    let there : slice_get theirs c.args.theirs ≡ Some y =
    subst (λ (z : Settled). slice_get z.cells c.args.theirs ≡ Some y) c.checked-2.ensures.library c.cell-2.ensures in
    let mine : c.behind-checked.inside.shapes ≡ x.shapes = ap (λ (b : PlainCell Rings). b.shapes) c.behind-checked.view_is in
    let other : c.behind-checked-2.inside.shapes ≡ y.shapes =
    ap (λ (b : PlainCell Rings). b.shapes) c.behind-checked-2.view_is in
    let first : AreLeft none x.shapes pairs y.shapes c.in_ok-shapes.shapes =
    subst (λ (hs : List (PlainShape Rings)). AreLeft none x.shapes pairs hs c.in_ok-shapes.shapes) other
    (subst (λ (hs : List (PlainShape Rings)). AreLeft none hs pairs c.behind-checked-2.inside.shapes c.in_ok-shapes.shapes) mine
    c.in_ok-shapes.ensures.ours) in
    let second : AreLeft pairs y.shapes none x.shapes c.in_ok-shapes.their_shapes =
    subst (λ (hs : List (PlainShape Rings)). AreLeft pairs hs none x.shapes c.in_ok-shapes.their_shapes) other
    (subst (λ (hs : List (PlainShape Rings)). AreLeft pairs c.behind-checked-2.inside.shapes none hs c.in_ok-shapes.their_shapes)
    mine c.in_ok-shapes.ensures.theirs) in
    rests_same none pairs ours theirs c.args.ours c.args.theirs x y c.in_ok-shapes.shapes c.in_ok-shapes.their_shapes
    c.whole-whole.ensures.no_pairs at there first second l s
    (c.in_ok-partners.ensures found x y at there l s out) same
