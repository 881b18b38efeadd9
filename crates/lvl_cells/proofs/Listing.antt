-- Layers of shapes that are in a list.
use Rattle.std.proofs.Common.{◌++◌, List, All, Contains}
use Rattle.std.proofs.lemmas.List.Elements.{All-contains, All-contains_itself, All-weaker, Contains-append_left}
use Rattle.lvl_names.specs.declared.layer.Layer.{Layer}
use Rattle.lvl_cells.specs.Cells.{PlainShape, Rings}

-- Layers that are in a list are in a list that has all of its Layers
pub among : (fewer more : List Layer) (shapes : List (PlainShape Rings)) → All (Contains more) fewer
    → All (λ h. Contains fewer h.layer) shapes → All (λ h. Contains more h.layer) shapes
among fewer more shapes wider h =
    All-weaker {X = PlainShape Rings} (λ g. Contains fewer g.layer) (λ g. Contains more g.layer)
    (λ g has. All-contains (Contains more) fewer g.layer wider has) shapes h

-- after others are appended, the Layers are still in the list
pub still_among : (layers more : List Layer) → All (Contains (layers ++ more)) layers
still_among layers more =
    All-weaker {X = Layer} (Contains layers) (Contains (layers ++ more))
    (λ l has. Contains-append_left layers more l has) layers (All-contains_itself layers)

pub among_those : (first second third : List Layer) → All (Contains second) first → All (Contains third) second
    → All (Contains third) first
among_those first second third h k =
    All-weaker {X = Layer} (Contains second) (Contains third) (λ l has. All-contains (Contains third) second l k has)
    first h
