use Rattle.std.proofs.Common.{take}
use Rattle.lvl_changed.specs.inside.Arrays.{all_places, AreListed}
use Rattle.lvl_changed.proofs.listing.list_alone.Given as goal

-- those of the arrays so far are listed that aren't among the others
abbrev pub invariant-loop-array : goal.invariant-loop-array
invariant-loop-array l =
    AreListed (all_places l.initial.placed) (all_places l.placed) (take l.array-index l.arrays) l.others
