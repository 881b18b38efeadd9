use Rattle.std.proofs.Common.{Some, ap, subst, sym, ◌∙◌}
use Rattle.std.proofs.lemmas.Result.{IfOk-weaker}
use Rattle.lvl_grid.specs.Clip.{IsInWindow}
use Rattle.lvl_compare.specs.Flats.{IsLesser}
use Rattle.lvl_compare.specs.declared.groups.Span.{Span}
use Rattle.lvl_compare.specs.declared.pair.Pair.{Pair}
use Rattle.lvl_compare.specs.inside.Groups.{on}
use Rattle.lvl_compare.specs.Pairs.{ours, theirs}
use Rattle.lvl_compare.specs.inside.Strips.{IsImproved, Part}
use Rattle.lvl_compare.proofs.InGroups.{first_improves, next_improves, span_up_to}
use Rattle.lvl_compare.proofs.InLists.{both_in, rows_in}
use Rattle.lvl_compare.proofs.strips.difference_after.Goals as goal

pub part-requires-clause-within : goal.part-requires-clause-within
part-requires-clause-within c = λ l h. ((span_up_to _ _ _ l c.up_to.ensures.after c.up_to.ensures.last).0 h).0

pub drawn_difference-requires-2-clause-lists : goal.drawn_difference-requires-2-clause-lists
drawn_difference-requires-2-clause-lists c =
    both_in c.args.pair.now c.args.window.now _ c.args.lists.now (rows_in _ _ c.in-Some.known _ _
    c.rows_before-rows.ensures) c.requires.lists

pub returns-in_default : goal.returns-in_default
returns-in_default c =
    let pair : Pair = c.args.pair.now in
    let part : Part = on c.args.group.now.span (IsInWindow c.args.window.now) in
    IfOk-weaker c.drawn_difference.result _ _
    (λ next h. subst (λ known. IsImproved (ours pair) (theirs pair) part known next) (sym c.in_default.is)
    (first_improves _ _ _ next h)) c.drawn_difference.ensures

pub returns : goal.returns
returns c =
    let pair : Pair = c.args.pair.now in
    let part : Part = on c.args.group.now.span (IsInWindow c.args.window.now) in
    let span = c.in_ok-lesser.ensures.span in
    subst (λ known. IsImproved (ours pair) (theirs pair) part known c.least.result) (sym c.in-Some.is)
    (next_improves pair c.args.group.now.span c.in_ok-lesser.lesser c.args.window.now c.rows_before-rows.result
    c.in-Some.known c.in_ok-next.next c.least.result (ap (λ (s : Span). s.after) span ∙ c.up_to.ensures.after)
    (subst (λ (s : Span). IsLesser c.args.group.now.span.last (Some c.in-Some.known.0) s.last) (sym span)
    c.up_to.ensures.last)
    c.in_ok-lesser.ensures.listed c.rows_before-rows.ensures c.in_ok-next.ensures c.least.ensures)
