use Rattle.std.proofs.Common.{take, Contains}
use Rattle.lvl_names.specs.declared.layer.Layer.{Layer}
use Rattle.lvl_view.specs.Views.{target_of}
use Rattle.lvl_changed.specs.inside.Layers.{IsOn, Spreads}
use Rattle.lvl_changed.proofs.layers.Layers.add_mapped.Given as goal

-- the Layers so far are added
abbrev pub invariant-loop-layer : goal.invariant-loop-layer
invariant-loop-layer l = record {
  added : (layer : Layer) → Contains (take l.layer-index l.others.list.items) layer
      → IsOn l.self (target_of l.view.pairs layer);
  kept : Spreads l.initial.self l.self;
}
