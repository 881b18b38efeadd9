use Rattle.std.proofs.Common.{◌≤◌, ◌-◌, length, take}
use Rattle.lvl_flat.specs.Flattened.{TopCovers}
use Rattle.lvl.specs.Hashes.{AreDigestsOn}
use Rattle.lvl.proofs.digested.digested_layers.Given as goal

-- the digests of the Layers so far are listed
abbrev pub invariant-loop-start : goal.invariant-loop-start
invariant-loop-start l = record {
  digested : AreDigestsOn (TopCovers l.fitted) (take l.start l.layers.items) l.digested.items;
  within : l.start ≤ length l.layers.items;
}

abbrev pub decreases-loop-start : goal.decreases-loop-start
decreases-loop-start l = length l.layers.items - l.start
