use Rattle.std.proofs.Common.{◌+◌, drop, length}
use Rattle.lvl_compare.proofs.After.{IsWalked}
use Rattle.lvl_changed.specs.inside.Shapes.{LayerAlike}
use Rattle.lvl_changed.specs.inside.Areas.{Grows}
use Rattle.lvl_changed.proofs.shapes.hold_flats.Given as goal

-- outside of the area both cover the same on the Layers so far
abbrev pub invariant-loop-layer : goal.invariant-loop-layer
invariant-loop-layer l = record {
  walked : IsWalked (LayerAlike l.area l.ours l.theirs) (drop l.our_place l.ours) (drop l.their_place l.theirs);
  kept : Grows l.initial.area l.area;
}

abbrev pub decreases-loop-layer : goal.decreases-loop-layer
decreases-loop-layer l = length (drop l.our_place l.ours) + length (drop l.their_place l.theirs)
