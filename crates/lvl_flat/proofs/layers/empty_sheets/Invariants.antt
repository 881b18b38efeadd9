use Rattle.std.proofs.Common.{◌≡◌, [], map, take, All}
use Rattle.lvl_flat.proofs.layers.empty_sheets.Given as goal

-- the sheets so far are empty, and for the Layers so far
abbrev pub invariant-loop-layer : goal.invariant-loop-layer
invariant-loop-layer l = record {
  layers : map (λ s. s.layer) l.sheets.items ≡ take l.layer-index l.layers;
  empty : All (λ s. s.rings ≡ []) l.sheets.items;
}
