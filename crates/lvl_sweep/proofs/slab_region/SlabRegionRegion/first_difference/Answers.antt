use Rattle.std.proofs.Common.{◌≡◌, map}
use Rattle.lvl_sweep.specs.Bands.{slab_of}
use Rattle.lvl_sweep.specs.Slab.{slabs_cover}
use Rattle.lvl_sweep.proofs.Lockstep.{in_all_rows}
use Rattle.lvl_sweep.proofs.OneList.{equal_lists}
use Rattle.lvl_sweep.proofs.slab_region.SlabRegionRegion.first_difference.Goals as goal

pub returns-clause-equal : goal.returns-clause-equal
returns-clause-equal c =
    rw (← c.self.view_is, ← c.other.view_is) (equal_lists c.walk_in_step.result _ _ c.self.invariant c.other.invariant
    (in_all_rows c.walk_in_step.result (λ s. slabs_cover (map slab_of c.self.inside.bands.items) s ≡ slabs_cover
    (map slab_of c.other.inside.bands.items) s)
    (rw (c.deref.ensures.value, c.deref-2.ensures.value) at c.walk_in_step.ensures.same)))
