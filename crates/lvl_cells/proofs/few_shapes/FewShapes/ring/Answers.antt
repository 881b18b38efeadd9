use Rattle.std.proofs.Common.{◌≡◌, sym, subst, ap, ◌∙◌}
use Rattle.lvl_grid.specs.Winding.{IsRing}
use Rattle.lvl_cells.specs.declared.few_shapes.FewSpan.{FewSpan}
use Rattle.lvl_cells.specs.inside.Outlines.{outline, stretch_in}
use Rattle.lvl_cells.proofs.FewSpans.{few_read}
use Rattle.lvl_cells.proofs.Moving.{IsRing-moved}
use Rattle.lvl_cells.proofs.few_shapes.FewShapes.ring.Goals as goal

pub returns-clause-ring : goal.returns-clause-ring
returns-clause-ring c =
    let span =
    few_read _ _ _ _ c.args.i c.index-span.result.now c.self.invariant c.self.view_is c.requires
    c.index-span.ensures in
    let s : FewSpan = c.index-span.result.now in
    let points : c.stretch.result.now ≡ stretch_in c.self.inside.points.items s.begin s.end =
    c.stretch.ensures ∙ ap (λ ps. stretch_in ps s.begin s.end) c.deref.ensures.value in
    subst IsRing (sym c.new.ensures)
    (IsRing-moved s.by (outline c.stretch.result.now s.along_y)
    (subst (λ ps. IsRing (outline ps s.along_y)) (sym points) span.is.movable.ring))
