use Rattle.std.proofs.Common.{◌≡◌, ◌<◌, ℕ, slice_get, Some, All, Contains}
use Rattle.lvl_names.specs.declared.layer.Layer.{Layer}
use Rattle.lvl_view.specs.Views.{target_of}
use Rattle.lvl.proofs.reason.sources.Given as goal

-- each of the layers counts, and of those before each that counts is one of them
abbrev pub invariant-loop-source : goal.invariant-loop-source
invariant-loop-source l = record {
  counted : All (λ s. target_of l.view.pairs s ≡ l.layer) l.layers.items;
  held : (k : ℕ) (s : Layer) → k < l.source-index → slice_get l.source-items k ≡ Some s
      → target_of l.view.pairs s ≡ l.layer → Contains l.layers.items s;
}
