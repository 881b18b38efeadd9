use Rattle.std.proofs.Common.{◌≡◌, ◌-◌, ◌*◌, ℕ, List, length, false, arith, sym, subst}
use Rattle.lvl_grid.specs.declared.point.Point.{Point}
use Rattle.lvl_cells.specs.declared.outlines.OutlineSpan.{OutlineSpan}
use Rattle.lvl_cells.specs.inside.Outlines.{AddsStretches, AreStretches, HasCornersBefore, IsKept}
use Rattle.lvl_cells.specs.inside.Spans.{IsPrefixOf}
use Rattle.lvl_cells.proofs.Outlined.{appended, before_still, goes_on_through, outline_points}
use Rattle.lvl_cells.proofs.Spanned.{goes_on_more}
use Rattle.lvl_cells.proofs.outlines.keep_points.Goals as goal

pub returns-clause-kept : goal.returns-clause-kept
returns-clause-kept c =
    let ring : List Point = c.args.ring.now in
    let first : List Point = c.keep_reach.new.points.items in
    let before : List Point = c.keep_stretches.new.points.items in
    let count : ℕ = c.in_ok-stretches.stretches in
    let span : OutlineSpan =
    record {
      begin = c.in_ok-begin.begin;
      end = c.in_ok-end.end;
      along_y = false;
      has_reach = c.in_ok-has_reach.has_reach;
      stretches = count;
    } in
    let added : AddsStretches first before count ring = c.in_ok-stretches.ensures.added in
    let from : length first ≡ length before - 2 * count = omega (arith, added.size) in
    subst (λ ps. IsKept ps span ring) (sym c.in_ok-extend_from_slice.ensures.items)
    (appended before ring span ring
    (omega (arith, c.in_ok-begin.ensures, c.len.ensures, c.keep_stretches.new.points.ok.0))
    (omega (arith, c.in_ok-end.ensures, c.len-2.ensures, c.keep_stretches.new.points.ok.0))
    (outline_points ring false c.requires) c.requires
    (record {
      room = omega (arith, added.size);
      stretches = subst (λ n. AreStretches before n count ring) from added.are;
      reach = λ has.
          subst (λ n. HasCornersBefore before n ring) from
          (before_still first before (length first) ring c.keep_stretches.ensures.before (omega arith)
          (c.in_ok-has_reach.ensures.corners has));
    }))

pub returns-clause-before : goal.returns-clause-before
returns-clause-before c =
    let first : List Point = c.keep_reach.new.points.items in
    let before : List Point = c.keep_stretches.new.points.items in
    subst (IsPrefixOf c.args.points.now.items) (sym c.in_ok-extend_from_slice.ensures.items)
    (goes_on_through c.args.points.now.items before _
    (goes_on_through c.args.points.now.items first before c.keep_reach.ensures.before c.keep_stretches.ensures.before)
    (goes_on_more before c.args.ring.now))
