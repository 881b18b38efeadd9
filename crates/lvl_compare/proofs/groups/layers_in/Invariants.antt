use Rattle.std.proofs.Common.{◌≡◌, filter, take}
use Rattle.lvl_view.specs.Views.{target_of}
use Rattle.lvl_compare.specs.inside.Groups.{is_of_span}
use Rattle.lvl_compare.proofs.groups.layers_in.Given as goal

-- those of the Layers so far that count as Layers of the span
abbrev pub invariant-loop-layer : goal.invariant-loop-layer
invariant-loop-layer l =
    l.kept.items ≡ filter (λ x. is_of_span l.span (target_of l.view.pairs x)) (take l.layer-index l.layers)
