use Rattle.std.proofs.Common.{◌≡◌, Bool, ap, sym, subst, ◌∙◌}
use Rattle.lvl_grid.specs.declared.point.Point.{Point}
use Rattle.lvl_grid.specs.declared.point.Square.{Square}
use Rattle.lvl_grid.specs.declared.point.Window.{Window}
use Rattle.lvl_grid.specs.declared.map.Turn.{Turn}
use Rattle.lvl_grid.specs.Turn.{image}
use Rattle.lvl_cells.specs.Cells.{PlainReference}
use Rattle.lvl_flat.specs.declared.bounds.Bounds.{Bounds}
use Rattle.lvl_flat.specs.inside.Bounds.{HasSquare}
use Rattle.lvl_witness.specs.inside.Areas.{moved_box}
use Rattle.lvl_witness.specs.Wide.{as_point}
use Rattle.lvl_witness.specs.inside.Wide.{as_square, lesser_of, greater_of}
use Rattle.lvl_witness.proofs.Reaching.{box_of, placed_has}
use Rattle.lvl_witness.proofs.areas.area_of_reference.Goals as goal

pub returns-clause-has : goal.returns-clause-has
returns-clause-has c =
    let r : PlainReference = c.args.reference.now in
    let window : Window = c.in_ok-window.window in
    let b : Bounds = box_of window in
    let q : Square = as_square c.args.square in
    let of : Bool → Turn → Point → Point → Point = λ x y z p. image (record { flip = x; turn = y; at = z }) p in
    let alike : (p : Point) → of c.flip.result c.turn.result c.at.result p ≡ of r.flip r.turn r.at p =
    λ p. ap (λ x. of x c.turn.result c.at.result p) c.flip.ensures
    ∙ (ap (λ y. of r.flip y c.at.result p) c.turn.ensures ∙ ap (λ z. of r.flip r.turn z p) c.at.ensures) in
    let first : Point = of r.flip r.turn r.at b.low in
    let last : Point = of r.flip r.turn r.at b.high in
    let first_is : as_point c.placed-first.result ≡ first =
    c.placed-first.ensures.image ∙ (alike c.lower_left.result ∙ ap (of r.flip r.turn r.at) c.lower_left.ensures) in
    let last_is : as_point c.placed-last.result ≡ last =
    c.placed-last.ensures.image ∙ (alike c.upper_right.result ∙ ap (of r.flip r.turn r.at) c.upper_right.ensures) in
    let low : as_point c.lesser.result ≡ lesser_of first last =
    c.lesser.ensures.lesser
    ∙ (ap (λ (p : Point). lesser_of p (as_point c.placed-last.result)) first_is ∙ ap (lesser_of first) last_is) in
    let high : as_point c.greater.result ≡ greater_of first last =
    c.greater.ensures.greater
    ∙ (ap (λ (p : Point). greater_of p (as_point c.placed-last.result)) first_is ∙ ap (greater_of first) last_is) in
    λ layer s e covers same.
    let has : HasSquare (moved_box (lesser_of first last) (greater_of first last) e) q =
    subst (HasSquare (moved_box (lesser_of first last) (greater_of first last) e)) same
    (placed_has window r e s (c.in_ok-window.ensures layer s covers)) in
    (c.around.ensures.has e).1
    (subst (λ (l : Point). HasSquare (moved_box l (as_point c.greater.result) e) q) (sym low)
    (subst (λ (h : Point). HasSquare (moved_box (lesser_of first last) h e) q) (sym high) has))
