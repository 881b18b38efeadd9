use Rattle.std.proofs.Common.{ap, refl, subst, sym}
use Rattle.std.proofs.lemmas.Result.{IfOk-weaker}
use Rattle.lvl_compare.specs.declared.groups.Span.{Span}
use Rattle.lvl_compare.proofs.InGroups.{AlikeUpTo, group_found, group_last, group_passed}
use Rattle.lvl_compare.proofs.windows.difference_by_groups.Goals as goal

pub loop-end-init : goal.loop-end-init
loop-end-init c = λ l q seen never. absurd (never refl)

pub part-requires-clause-within : goal.part-requires-clause-within
part-requires-clause-within c = λ l h. c.in_ok-layers.ensures.every l

pub part-requires-2-clause-within : goal.part-requires-2-clause-within
part-requires-2-clause-within c = λ l h. c.in_ok-layers.ensures.every l

pub loop-end-preserved : goal.loop-end-preserved
loop-end-preserved c =
    group_passed _ _ _ c.loop-end.after _ c.in_ok-group.group.span c.in_ok-found.found c.in_ok-group.ensures.span
    (sym c.if-is_some.ensures) c.loop-end.invariant c.in_ok-found.ensures

pub returns-then-is_some : goal.returns-then-is_some
returns-then-is_some c =
    group_found _ _ _ c.in_ok-group.group.span c.in_ok-found.found (sym c.if-is_some.ensures)
    (subst (AlikeUpTo _ _ _) (sym (ap (λ (s : Span). s.after) c.in_ok-group.ensures.span)) c.loop-end.invariant)
    c.in_ok-found.ensures

pub returns : goal.returns
returns c =
    IfOk-weaker c.difference_in_group-2.result _ _
    (λ found. group_last _ _ _ c.loop-end.after c.in_ok-group-2.group.span found c.in_ok-group-2.ensures.span
    c.loop-end.invariant) c.difference_in_group-2.ensures
