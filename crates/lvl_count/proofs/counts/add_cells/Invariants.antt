use Rattle.std.proofs.Common.{◌≡◌, map, take}
use Rattle.lvl_count.specs.inside.Counts.{more, placed_on}
use Rattle.lvl_count.proofs.counts.add_cells.Given as goal

-- the rings of the cells so far are added
abbrev pub invariant-loop-index : goal.invariant-loop-index
invariant-loop-index l =
    l.counts
    ≡ map (more (λ layer. placed_on layer l.checked.cells l.times (take l.index-index l.index-items))) l.initial.counts
