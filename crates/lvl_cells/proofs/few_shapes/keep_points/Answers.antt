use Rattle.std.proofs.Common.{◌≡◌, ◌+◌, ◌++◌, false, length, map, inl, refl, sym, subst, ap, arith, ◌∙◌}
use Rattle.lvl_grid.specs.Turn.{shifted}
use Rattle.lvl_grid.specs.Winding.{IsRing}
use Rattle.lvl_cells.specs.declared.few_shapes.KeptRing.{KeptRing}
use Rattle.lvl_cells.specs.inside.Few.{IsKeptRing}
use Rattle.lvl_cells.specs.inside.Outlines.{outline}
use Rattle.lvl_cells.specs.inside.Spans.{origin}
use Rattle.lvl_cells.proofs.FewSpans.{appended}
use Rattle.lvl_cells.proofs.Moving.{unmoved_ring}
use Rattle.lvl_cells.proofs.Outlined.{outline_points}
use Rattle.lvl_cells.proofs.few_shapes.keep_points.Goals as goal

pub returns-clause-kept : goal.returns-clause-kept
returns-clause-kept c =
    let kept : KeptRing =
    record { begin = c.in_ok-begin.begin; end = c.in_ok-end.end; along_y = false; by = origin } in
    let all : c.extend_from_slice.new.self.items ≡ c.args.points.now.items ++ c.args.ring.now =
    c.in_ok-extend_from_slice.ensures.items ∙ ap (λ ps. ps ++ c.args.ring.now) c.reserve_eighth.ensures in
    let begin : kept.begin ≡ length c.args.points.now.items =
    c.in_ok-begin.ensures ∙ (c.len.ensures ∙ c.args.points.now.ok.0) in
    let end : kept.end ≡ length c.args.points.now.items + length c.args.ring.now =
    omega (arith, begin, c.in_ok-end.ensures) in
    let means : outline c.args.ring.now false ≡ c.args.ring.now = outline_points c.args.ring.now false c.requires in
    subst (λ ps. IsKeptRing ps kept c.args.ring.now) (sym all)
    (appended c.args.points.now.items c.args.ring.now c.args.ring.now kept
    (record { ring = subst IsRing (sym means) c.requires; fits = inl refl })
    (ap (map (shifted origin)) means ∙ unmoved_ring c.args.ring.now) begin end)
