use Rattle.std.proofs.Common.{◌≡◌, ◌∷◌, [], ◌+◌, length, refl, subst, sym, arith, ◌∙◌}
use Rattle.lvl_cells.specs.declared.shared.KeptFigure.{KeptFigure}
use Rattle.lvl_cells.specs.Cells.{Rings}
use Rattle.lvl_cells.specs.inside.Spans.{origin, IsFigure}
use Rattle.lvl_cells.proofs.Spanned.{added}
use Rattle.lvl_cells.proofs.shared.keep_ring.Goals as goal

pub returns-clause-figure : goal.returns-clause-figure
returns-clause-figure c =
    let more : Rings = c.args.ring.now ∷ [] in
    let figure : KeptFigure = record { begin = c.in_ok-begin.begin; end = c.in_ok-end.end; by = origin } in
    let end : figure.end ≡ length c.args.rings.now + length more =
    omega (arith, c.in_ok-end.ensures.0, c.len-2.ensures) in
    subst (λ (rs : Rings). IsFigure rs figure more) (sym c.in_ok-push_ring.ensures.ok)
    (added c.args.rings.now more figure (c.in_ok-begin.ensures.0 ∙ c.len.ensures) end c.in_ok-end.ensures.1 refl)
