use Rattle.std.proofs.Common.{◌≡◌, List, map, sym, ap, subst, ◌∙◌}
use Rattle.lvl_grid.specs.declared.point.Point.{Point}
use Rattle.lvl_grid.specs.Turn.{shifted}
use Rattle.lvl_witness.specs.Boxes.{IsBoxOf}
use Rattle.lvl_witness.specs.Wide.{as_point}
use Rattle.lvl_witness.proofs.Boxing.{box_moved}
use Rattle.lvl_witness.proofs.boxes.moved_box_of.Goals as goal

pub returns : goal.returns
returns c =
    let e : Point = c.args.by in
    let points : List Point = map (shifted e) c.args.ring.now in
    let low : Point = c.box_of.result.0 in
    let high : Point = c.box_of.result.1 in
    let low_is : as_point c.moved.result ≡ shifted e low =
    c.moved.ensures.moved ∙ ap (shifted e) c.from_point.ensures.same in
    let high_is : as_point c.moved-2.result ≡ shifted e high =
    c.moved-2.ensures.moved ∙ ap (shifted e) c.from_point-2.ensures.same in
    subst (λ (l : Point). IsBoxOf l (as_point c.moved-2.result) points) (sym low_is)
    (subst (λ (h : Point). IsBoxOf (shifted e low) h points) (sym high_is)
    (box_moved low high e c.args.ring.now c.box_of.ensures))
