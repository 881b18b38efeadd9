use Rattle.std.proofs.Common.{◌<◌, subst}
use Rattle.std.proofs.lemmas.Result.{IfOk-weaker}
use Rattle.lvl_compare.specs.inside.Lists.{AreBoth}
use Rattle.lvl_compare.specs.inside.Strips.{AreHalves, girth}
use Rattle.lvl_compare.proofs.InLists.{both_in, both_shorter}
use Rattle.lvl_compare.proofs.InStrips.{halves_improved}
use Rattle.lvl_compare.proofs.strips.+difference_within.Goals as goal

pub uncut-requires-clause-lists : goal.uncut-requires-clause-lists
uncut-requires-clause-lists t c =
    both_shorter _ _ c.in_ok-short.short _ _ c.in_ok-short.ensures c.shorter-lists.ensures.some
    c.shorter-lists.ensures.none c.requires.lists

pub difference_within-requires : goal.difference_within-requires
difference_within-requires t c =
    let cut : AreHalves c.args.window.now c.in-Some-Some.low c.in-Some-Some.high = c.in-Some-Some.ensures' in
    let lists : AreBoth c.args.pair.now c.args.window.now c.shorter-lists.result.now =
    both_shorter _ _ c.in_ok-short.short _ _ c.in_ok-short.ensures c.shorter-lists.ensures.some
    c.shorter-lists.ensures.none c.requires.lists in (
      subst (λ n. girth c.in-Some-Some.low < n) c.decreases cut.first_less,
      (c.requires.listed, both_in _ _ _ _ cut.first lists),
    )

pub difference_within-requires-2 : goal.difference_within-requires-2
difference_within-requires-2 t c =
    let cut : AreHalves c.args.window.now c.in-Some-Some.low c.in-Some-Some.high = c.in-Some-Some.ensures' in
    let lists : AreBoth c.args.pair.now c.args.window.now c.shorter-lists.result.now =
    both_shorter _ _ c.in_ok-short.short _ _ c.in_ok-short.ensures c.shorter-lists.ensures.some
    c.shorter-lists.ensures.none c.requires.lists in (
      subst (λ n. girth c.in-Some-Some.high < n) c.decreases cut.second_less,
      (c.requires.listed, both_in _ _ _ _ cut.second lists),
    )

pub returns-clause-found : goal.returns-clause-found
returns-clause-found t c =
    IfOk-weaker c.difference_within-2.result _ _
    (λ after. halves_improved _ _ _ _ _ _ _ _ after.found c.in-Some-Some.ensures' c.in_ok-half.ensures.found)
    c.difference_within-2.ensures.found
