use Rattle.std.proofs.Common.{◌≡◌, Contains, List, pos, get_or, sym, subst}
use Rattle.std.proofs.lemmas.List.{get_or_default, take_all, take_more}
use Rattle.lvl_grid.specs.declared.point.Window.{Window}
use Rattle.lvl_grid.specs.Clip.{IsInWindow}
use Rattle.lvl_compare.specs.declared.pair.Pair.{Pair}
use Rattle.lvl_compare.specs.inside.Groups.{on}
use Rattle.lvl_compare.specs.Pairs.{ours, seen_in, theirs}
use Rattle.lvl_compare.specs.inside.Strips.{IsImproved, seen_of}
use Rattle.lvl_compare.proofs.InLists.{both_in, both_near}
use Rattle.lvl_compare.proofs.InWindows.{none_seen, seen_within, window_more}
use Rattle.lvl_compare.proofs.together.difference_together.Goals as goal

pub loop-window-init : goal.loop-window-init
loop-window-init c = none_seen _ _ _ _ c.args.known

pub difference_before-requires-clause-lists : goal.difference_before-requires-clause-lists
difference_before-requires-clause-lists c =
    let pair : Pair = c.args.pair.now in
    let ws : List Window = c.args.windows.now in
    let i = c.loop-window.window-index in
    let none : Window = record { x0 = pos 0; y0 = pos 0; x1 = pos 0; y1 = pos 0 } in
    let w : Window = get_or ws i none in
    let has : Contains ws w = (i, c.loop-window-test.true, get_or_default ws i w none c.loop-window-test.true) in
    let is : c.shared-part.result ≡ seen_of pair.view.now.window w = rw c.window.ensures at c.shared-part.ensures in
    both_in pair w c.shared-part.result c.shorter-lists.result.now
    (λ q seen. seen_within pair.view.now.window w q (subst (λ (u : Window). IsInWindow u q) is seen))
    (both_near pair ws c.in_ok-short.short c.args.wider.now c.shorter-lists.result.now c.in_ok-short.ensures
    c.shorter-lists.ensures.some c.shorter-lists.ensures.none c.requires.lists w has)

pub loop-window-preserved : goal.loop-window-preserved
loop-window-preserved c =
    let pair : Pair = c.args.pair.now in
    let ws : List Window = c.args.windows.now in
    let none : Window = record { x0 = pos 0; y0 = pos 0; x1 = pos 0; y1 = pos 0 } in
    let is : c.shared-part.result ≡ seen_of pair.view.now.window (get_or ws c.loop-window.window-index none) =
    rw c.window.ensures at c.shared-part.ensures in
    subst (λ us. IsImproved (ours pair) (theirs pair) (on c.args.group.now.span (seen_in pair us)) c.args.known
    c.in_ok-found.found) (sym (take_more ws c.loop-window.window-index none c.loop-window-test.true))
    (window_more _ _ _ _ _ _ _ c.args.known c.loop-window.found _ is c.loop-window.invariant c.in_ok-found.ensures)

pub returns : goal.returns
returns c =
    let pair : Pair = c.args.pair.now in
    subst (λ us. IsImproved (ours pair) (theirs pair) (on c.args.group.now.span (seen_in pair us)) c.args.known
    c.loop-window.found)
    (take_all c.loop-window.window-index c.args.windows.now c.loop-window-test.false) c.loop-window.invariant
