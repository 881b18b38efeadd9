use Rattle.std.proofs.Common.{take}
use Rattle.std.specs.List.{IsDistinct}
use Rattle.lvl_names.specs.Layers.{same_layer}
use Rattle.lvl_view.specs.Views.{sources}
use Rattle.lvl_view.specs.inside.Reading.{AreTargets}
use Rattle.lvl_view.proofs.view.targets_of.Given as goal

-- the map has the targets of the pairs so far, no two of which have the same source
abbrev pub invariant-loop-pair : goal.invariant-loop-pair
invariant-loop-pair l =
    AreTargets (take l.pair-index l.pairs) l.targets × IsDistinct same_layer (sources (take l.pair-index l.pairs))
