use Rattle.std.proofs.Common.{◌∷◌, [], false, inl, map, refl, sym, subst, ap, ◌∙◌}
use Rattle.lvl_grid.specs.Turn.{shifted}
use Rattle.lvl_grid.specs.Winding.{IsRing}
use Rattle.lvl_cells.specs.Cells.{PlainShape, Rings}
use Rattle.lvl_cells.specs.inside.Outlines.{outline}
use Rattle.lvl_cells.specs.inside.Spans.{origin}
use Rattle.lvl_cells.proofs.Moving.{IsRing-moved, unmoved_ring}
use Rattle.lvl_cells.proofs.Outlined.{outline_points}
use Rattle.lvl_cells.proofs.single.Single.ring.Goals as goal

pub returns-clause-value : goal.returns-clause-value
returns-clause-value c =
    let good : IsRing c.deref.result.now = subst IsRing (sym c.deref.ensures.value) c.self.invariant in
    ap (λ r. r ∷ [])
    (c.new.ensures
    ∙ (ap (map (shifted origin)) (outline_points c.deref.result.now false good)
    ∙ (unmoved_ring c.deref.result.now ∙ c.deref.ensures.value)))
    ∙ ap (λ (h : PlainShape Rings). h.figure) c.self.view_is

pub returns-clause-ring : goal.returns-clause-ring
returns-clause-ring c =
    let good : IsRing c.deref.result.now = subst IsRing (sym c.deref.ensures.value) c.self.invariant in
    subst IsRing (sym c.new.ensures)
    (IsRing-moved origin (outline c.deref.result.now false)
    (subst IsRing (sym (outline_points c.deref.result.now false good)) good))

pub new-requires-clause-ring : goal.new-requires-clause-ring
new-requires-clause-ring c =
    let good : IsRing c.deref.result.now = subst IsRing (sym c.deref.ensures.value) c.self.invariant in
    record { ring = subst IsRing (sym (outline_points c.deref.result.now false good)) good; fits = inl refl }
