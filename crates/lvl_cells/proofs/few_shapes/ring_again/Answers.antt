use Rattle.std.proofs.Common.{◌≡◌, List, All, inr, map, sym, subst, ap, ◌∙◌}
use Rattle.lvl_grid.specs.declared.point.Point.{Point}
use Rattle.lvl_grid.specs.Turn.{FitsPoint, shifted}
use Rattle.lvl_cells.specs.inside.Outlines.{outline, stretch_in}
use Rattle.lvl_cells.proofs.few_shapes.ring_again.Goals as goal

pub returns : goal.returns
returns c =
    let kept : List Point = outline (stretch_in c.args.points.now c.args.last.now.begin c.args.last.now.end)
    c.args.last.now.along_y in
    let is : map (shifted c.in_ok-displacement.field-0) kept ≡ c.args.form.now.ring.now =
    ap (λ ps. map (shifted c.in_ok-displacement.field-0) (outline ps c.args.last.now.along_y)) (sym c.stretch.ensures)
    ∙ c.in_ok-displacement.ensures.is in
    record {
      order = c.requires.rising;
      inside = c.requires.inside;
      movable = record {
        ring = c.requires.ring;
        fits = inr (subst (All FitsPoint) (sym is) c.in_ok-displacement.ensures.fits);
      };
      is = is;
    }
