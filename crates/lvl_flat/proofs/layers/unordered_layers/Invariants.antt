use Rattle.std.proofs.Common.{All, Contains, take}
use Rattle.lvl_flat.proofs.layers.unordered_layers.Given as goal

-- the Layers of the cells so far are listed
abbrev pub invariant-loop-cell : goal.invariant-loop-cell
invariant-loop-cell l = All (λ c. All (λ h. Contains l.layers.items h.layer) c.shapes) (take l.cell-index l.cells)
