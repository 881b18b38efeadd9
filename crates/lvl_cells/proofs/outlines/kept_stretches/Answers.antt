use Rattle.std.proofs.Common.{◌≡◌, ◌-◌, ◌*◌, List, sym, ap, subst, arith}
use Rattle.lvl_grid.specs.declared.point.Point.{Point}
use Rattle.lvl_cells.specs.declared.outlines.OutlineSpan.{OutlineSpan}
use Rattle.lvl_cells.specs.inside.Outlines.{outline_in, stretch_in, AreStretches}
use Rattle.lvl_cells.proofs.Outlined.{stretches_in}
use Rattle.lvl_cells.proofs.outlines.kept_stretches.Goals as goal

pub returns-clause-are : goal.returns-clause-are
returns-clause-are c =
    let points : List Point = c.args.points.now in
    let span : OutlineSpan = c.args.span.now in
    let from : span.begin - 2 * span.stretches ≡ span.begin - 2 * c.from.result =
    ap (λ n. span.begin - 2 * n) (sym c.from.ensures) in
    subst (λ n. AreStretches (stretch_in points n span.begin) 0 span.stretches (outline_in points span)) from
    (stretches_in points (span.begin - 2 * span.stretches) span.stretches span.begin (outline_in points span)
    (omega (arith, c.requires.room)) c.requires.stretches)
