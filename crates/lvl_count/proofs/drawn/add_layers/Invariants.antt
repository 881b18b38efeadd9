use Rattle.std.proofs.Common.{◌≡◌, ◌||◌, take}
use Rattle.std.specs.List.{list_any}
use Rattle.lvl_names.specs.Layers.{same_layer}
use Rattle.lvl_names.specs.declared.layer.Layer.{Layer}
use Rattle.lvl_count.specs.inside.Drawing.{has_layer}
use Rattle.lvl_count.proofs.drawn.add_layers.Given as goal

-- the Layers of the shapes so far were added
abbrev pub invariant-loop-i : goal.invariant-loop-i
invariant-loop-i l = (q : Layer)
    → has_layer l.drawn q ≡ (has_layer l.fn.drawn q || list_any (λ h. same_layer h.layer q) (take l.i l.shapes))
