use Rattle.std.proofs.Common.{◌≡◌, ◌+◌, ◌∷◌, [], length, inr, refl, sym, subst, arith, ◌∙◌}
use Rattle.lvl_cells.specs.declared.few_shapes.KeptRing.{KeptRing}
use Rattle.lvl_cells.specs.inside.Few.{IsKeptRing}
use Rattle.lvl_cells.specs.inside.Outlines.{rectangle_at}
use Rattle.lvl_cells.proofs.FewSpans.{appended}
use Rattle.lvl_cells.proofs.Outlined.{rectangle_ring}
use Rattle.lvl_cells.proofs.few_shapes.keep_rectangle.Goals as goal

pub returns-clause-kept : goal.returns-clause-kept
returns-clause-kept c =
    let kept : KeptRing = record {
      begin = c.in_ok-begin.begin;
      end = c.in_ok-end.end;
      along_y = c.args.kept.now.along_y;
      by = c.args.kept.now.from;
    } in
    let begin : kept.begin ≡ length c.args.points.now.items =
    c.in_ok-begin.ensures ∙ (c.len.ensures ∙ c.args.points.now.ok.0) in
    let end : kept.end ≡ length c.args.points.now.items + 1 = omega (arith, begin, c.in_ok-end.ensures) in
    subst (λ ps. IsKeptRing ps kept (rectangle_at c.args.kept.now)) (sym c.in_ok-push_eighth.ensures.added)
    (appended c.args.points.now.items (c.args.kept.now.diagonal ∷ []) (rectangle_at c.args.kept.now) kept
    (record {
      ring = rectangle_ring c.args.kept.now.diagonal c.args.kept.now.along_y;
      fits = inr c.requires;
    })
    refl begin end)
