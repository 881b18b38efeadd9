use Rattle.std.proofs.Common.{All, take}
use Rattle.lvl_count.specs.inside.Counts.{AreListed}
use Rattle.lvl_count.proofs.layers.layers_of.Given as goal

-- the Layers of the cells so far are listed
abbrev pub invariant-loop-index : goal.invariant-loop-index
invariant-loop-index l = All (AreListed l.checked.cells l.times l.layers.items) (take l.index-index l.index-items)
