use Rattle.std.proofs.Common.{◌≡◌, map, take}
use Rattle.lvl_cells.specs.Cells.{map_at}
use Rattle.lvl_changed.specs.inside.Arrays.{as_reference}
use Rattle.lvl_changed.proofs.listing.places_of.Given as goal

-- all has the placements at the places so far
abbrev pub invariant-loop-k : goal.invariant-loop-k
invariant-loop-k l =
    l.all.items ≡ map (λ e. record { cell = l.array.cell; map = map_at (as_reference l.array) e }) (take l.k l.array.shifts)
