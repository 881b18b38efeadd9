use Rattle.std.proofs.Common.{◌≡◌, List, Some, slice_get, inl, inr, sym, ap, ◌∙◌}
use Rattle.lvl_grid.specs.declared.point.Point.{Point}
use Rattle.lvl_grid.specs.Turn.{FitsPoint, shifted}
use Rattle.lvl_cells.specs.inside.Outlines.{ring_of}
use Rattle.lvl_cells.specs.inside.Spans.{origin}
use Rattle.lvl_cells.proofs.Moving.{kept_point, point_fits, points_same, points_apart, some_where_it_holds}
use Rattle.lvl_cells.proofs.Moving.{unmoved_point}
use Rattle.lvl_cells.proofs.moved.MovedRing.get.Goals as goal

pub returns-then-eq : goal.returns-then-eq
returns-then-eq c =
    let p : Point = c.in_ok-point.point in
    let points : List Point = ring_of c.self.inside.outline in
    let is : slice_get points c.args.k ≡ Some p = sym c.in_ok-point.ensures in
    let by : c.self.inside.by ≡ origin = points_same c.self.inside.by origin c.if-eq.ensures in
    ap Some (sym (unmoved_point p) ∙ ap (λ b. shifted b p) (sym by))
    ∙ (sym (kept_point points c.args.k c.self.inside.by p is) ∙ ap (λ ps. slice_get ps c.args.k) c.self.view_is)

pub returns : goal.returns
returns c =
    let p : Point = c.in_ok-point.point in
    let by : Point = c.self.inside.by in
    let points : List Point = ring_of c.self.inside.outline in
    let is : slice_get points c.args.k ≡ Some p = sym c.in_ok-point.ensures in
    let fits : FitsPoint (shifted by p) =
    elim c.self.invariant.0.fits [
      | inl none ↦ absurd (points_apart by origin c.if-eq.ensures none)
      | inr all ↦ point_fits points c.args.k by p is all
    ] in
    some_where_it_holds c.moved.result (FitsPoint (shifted by p)) (shifted by p) c.moved.ensures fits
    ∙ (sym (kept_point points c.args.k by p is) ∙ ap (λ ps. slice_get ps c.args.k) c.self.view_is)
