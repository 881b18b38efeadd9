use Rattle.std.proofs.lemmas.Result.{IfOk-weaker}
use Rattle.lvl_grid.specs.Clip.{IsInWindow}
use Rattle.lvl_compare.specs.declared.pair.Pair.{Pair}
use Rattle.lvl_compare.specs.inside.Groups.{on}
use Rattle.lvl_compare.specs.Pairs.{ours, seen_in, theirs}
use Rattle.lvl_compare.proofs.Finding.{past_within}
use Rattle.lvl_compare.proofs.together.are_past.Goals as goal

pub returns : goal.returns
returns c =
    let pair : Pair = c.args.pair.now in
    IfOk-weaker c.is_past.result _ _
    (λ past h t.
    past_within (ours pair) (theirs pair) (on c.args.group.now.span (IsInWindow c.in-Some.hull))
    (on c.args.group.now.span (seen_in pair c.args.windows.now)) c.args.known
    (λ l q s. (s.0, c.in-Some.ensures q s.1.1)) (h t))
    c.is_past.ensures
