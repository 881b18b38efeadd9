use Rattle.std.proofs.Common.{◌≡◌, ◌++◌, map, length}
use Rattle.lvl_sweep.specs.Bands.{slab_of}
use Rattle.lvl_sweep.proofs.slab_region.collected.Given as goal

-- the bands taken so far and those still to come are all bands
abbrev pub invariant-loop-band : goal.invariant-loop-band
invariant-loop-band l = l.fn.sweep ≡ map slab_of l.bands.items ++ l.sweep

abbrev pub decreases-loop-band : goal.decreases-loop-band
decreases-loop-band l = length l.sweep
