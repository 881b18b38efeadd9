use Rattle.lvl_compare.proofs.InGroups.{part_listed}
use Rattle.lvl_compare.proofs.groups.Group.part.Goals as goal

pub returns-clause-listed : goal.returns-clause-listed
returns-clause-listed c = record {
  ours =
      part_listed _ _ _ _ _ _ c.requires.within
      (rw (c.whole-unmapped.ensures.no_pairs, c.deref.ensures.value) at c.in_ok-ours.ensures) c.requires.listed.ours;
  theirs =
      part_listed _ _ _ _ _ _ c.requires.within (rw c.deref-2.ensures.value at c.in_ok-theirs.ensures)
      c.requires.listed.theirs;
}
