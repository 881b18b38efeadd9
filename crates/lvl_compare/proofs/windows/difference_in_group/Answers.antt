use Rattle.std.proofs.Common.{◌≡◌, ◌+◌, ◌-◌, ◌++◌, List, None, drop, take, take-add, ap, sym, subst, ◌∙◌, arith}
use Rattle.std.proofs.lemmas.List.{take_all}
use Rattle.lvl_grid.specs.declared.point.Window.{Window}
use Rattle.lvl_compare.specs.declared.pair.Pair.{Pair}
use Rattle.lvl_compare.specs.inside.Groups.{on}
use Rattle.lvl_compare.specs.inside.Strips.{IsFoundIn, IsImproved}
use Rattle.lvl_compare.specs.Pairs.{ours, seen_in, theirs}
use Rattle.lvl_compare.proofs.Finding.{improved_found}
use Rattle.lvl_compare.proofs.InWindows.{none_seen, windows_more}
use Rattle.lvl_compare.proofs.windows.difference_in_group.Goals as goal

pub loop-from-init : goal.loop-from-init
loop-from-init c = none_seen _ _ _ _ None

pub loop-from-preserved : goal.loop-from-preserved
loop-from-preserved c =
    let pair : Pair = c.args.pair.now in
    let ws : List Window = c.args.windows.now in
    let from = c.loop-from.from in
    let end = c.end_of_near-end.result in
    let up : from + (end - from) ≡ end = omega (arith, c.end_of_near-end.ensures.after) in
    let cut : take end ws ≡ take from ws ++ take (end - from) (drop from ws) =
    ap (λ n. take n ws) (sym up) ∙ take-add from (end - from) ws in
    subst (λ us. IsImproved (ours pair) (theirs pair) (on c.args.group.now.span (seen_in pair us)) None
    c.in_ok-found.found) (sym cut)
    (windows_more _ _ _ _ (take from ws) (take (end - from) (drop from ws)) None c.loop-from.found _
    c.loop-from.invariant c.in_ok-found.ensures)

pub returns : goal.returns
returns c =
    let pair : Pair = c.args.pair.now in
    subst (λ us. IsFoundIn (ours pair) (theirs pair) (on c.args.group.now.span (seen_in pair us)) c.loop-from.found)
    (take_all c.loop-from.from c.args.windows.now c.loop-from-test.false)
    (improved_found _ _ _ c.loop-from.found c.loop-from.invariant)
