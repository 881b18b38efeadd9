use Rattle.std.proofs.Common.{All, Contains, take}
use Rattle.lvl_cells.proofs.shapes.Shapes.push_layers.Given as goal

-- the Layers of the shapes so far are among those listed, and so are those from before
abbrev pub invariant-loop-i : goal.invariant-loop-i
invariant-loop-i l = record {
  kept : All (Contains l.layers.items) l.initial.layers.items;
  added : All (λ h. Contains l.layers.items h.layer) (take l.i l.self);
}
