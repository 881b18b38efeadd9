use Rattle.std.proofs.Common.{take}
use Rattle.lvl_changed.specs.inside.Placements.{AreLeftPlaces}
use Rattle.lvl_changed.proofs.placements.missing_places.Given as goal

-- those of the placements so far are left that aren't among the others
abbrev pub invariant-loop-placement : goal.invariant-loop-placement
invariant-loop-placement l = AreLeftPlaces (take l.placement-index l.placements) l.others l.left.items
