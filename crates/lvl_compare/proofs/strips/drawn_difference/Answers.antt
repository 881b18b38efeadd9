use Rattle.std.proofs.Common.{AllPairs, subst, sym}
use Rattle.lvl_names.specs.Layers.{ComesBefore}
use Rattle.lvl_compare.proofs.Finding.{flats_found}
use Rattle.lvl_compare.proofs.InGroups.{shows_ours, shows_theirs}
use Rattle.lvl_compare.proofs.strips.drawn_difference.Goals as goal

pub within_of-requires-clause-rising : goal.within_of-requires-clause-rising
within_of-requires-clause-rising c =
    subst (AllPairs ComesBefore) (sym c.deref.ensures.value) c.requires.listed.ours.rising

pub within_of-requires-2-clause-rising : goal.within_of-requires-2-clause-rising
within_of-requires-2-clause-rising c =
    subst (AllPairs ComesBefore) (sym c.deref-2.ensures.value) c.requires.listed.theirs.rising

pub returns : goal.returns
returns c =
    flats_found _ _ _ c.in_ok-ours.ours c.in_ok-mapped.mapped c.in_ok-found.found
    (shows_ours _ _ _ _ _ c.requires.listed.ours (rw c.deref.ensures.value at c.in_ok-ours.ensures))
    (shows_theirs _ _ _ _ _ _ _ c.requires.listed.theirs (rw c.deref-2.ensures.value at c.in_ok-theirs.ensures)
    c.in_ok-mapped.ensures.covers) c.in_ok-found.ensures.same c.in_ok-found.ensures.differ
