use Rattle.std.proofs.Common.{◌+◌, ◌∷◌, ◌++◌, [], List, sym, subst}
use Rattle.lvl_grid.specs.declared.point.Point.{Point}
use Rattle.lvl_cells.specs.inside.Outlines.{AddsStretches}
use Rattle.lvl_cells.specs.inside.Spans.{IsPrefixOf}
use Rattle.lvl_cells.proofs.Outlined.{goes_on_through, stretch_added}
use Rattle.lvl_cells.proofs.Spanned.{goes_on_more}
use Rattle.lvl_cells.proofs.outlines.keep_stretches.Goals as goal

pub loop-count-preserved : goal.loop-count-preserved
loop-count-preserved c =
    let first : List Point = c.args.points.now.items in
    let now : List Point = c.loop-count.points.items in
    let low : Point = c.in-Some.low in
    let high : Point = c.in-Some.high in
    subst
    (λ ps. IsPrefixOf first ps × AddsStretches first ps (c.loop-count.count + 1) c.args.ring.now)
    (sym c.in_ok-extend_from_slice.ensures.items) (
      goes_on_through first now (now ++ low ∷ high ∷ []) c.loop-count.invariant.0 (goes_on_more now (low ∷ high ∷ [])),
      stretch_added first now c.loop-count.count c.args.ring.now low high c.loop-count.invariant.1 c.in-Some.ensures,
    )
