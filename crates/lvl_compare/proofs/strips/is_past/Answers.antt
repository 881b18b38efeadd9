use Rattle.std.proofs.Common.{None, Some, ap, refl, subst, sym, ◌∙◌}
use Rattle.lvl_grid.specs.Clip.{IsInWindow}
use Rattle.lvl_compare.specs.Flats.{IsLesser}
use Rattle.lvl_compare.specs.declared.groups.Span.{Span}
use Rattle.lvl_compare.specs.declared.pair.Pair.{Pair}
use Rattle.lvl_compare.specs.inside.Groups.{on}
use Rattle.lvl_compare.specs.Pairs.{ours, theirs}
use Rattle.lvl_compare.specs.inside.Strips.{IsImproved, Part}
use Rattle.lvl_compare.proofs.InGroups.{next_improves, span_up_to}
use Rattle.lvl_compare.proofs.strips.is_past.Goals as goal

pub part-requires-clause-within : goal.part-requires-clause-within
part-requires-clause-within c = λ l h. ((span_up_to _ _ _ l c.up_to.ensures.after c.up_to.ensures.last).0 h).0

pub returns : goal.returns
returns c = λ past.
    let pair : Pair = c.args.pair.now in
    let part : Part = on c.args.group.now.span (IsInWindow c.args.window.now) in
    let span = c.in_ok-lesser.ensures.span in
    subst (λ known. IsImproved (ours pair) (theirs pair) part known known) (sym c.in-Some.is)
    (next_improves pair c.args.group.now.span c.in_ok-lesser.lesser c.args.window.now c.rows_before-rows.result
    c.in-Some.known None (Some c.in-Some.known) (ap (λ (s : Span). s.after) span ∙ c.up_to.ensures.after)
    (subst (λ (s : Span). IsLesser c.args.group.now.span.last (Some c.in-Some.known.0) s.last) (sym span)
    c.up_to.ensures.last)
    c.in_ok-lesser.ensures.listed c.rows_before-rows.ensures
    (λ l q h. absurd (c.has_no_square-2.ensures past q h.1)) refl)
