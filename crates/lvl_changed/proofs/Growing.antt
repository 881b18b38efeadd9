-- Areas and sets of Layers that grow.
use Rattle.lvl_grid.specs.declared.map.Map.{Map}
use Rattle.lvl_changed.specs.declared.area.Area.{Area}
use Rattle.lvl_changed.specs.inside.Areas.{Grows, HasImages}
use Rattle.lvl_changed.specs.inside.Layers.{Spreads}
use Rattle.lvl_changed.specs.inside.Windows.{HasPlaced, Widens}

pub grows_itself : (a : Area) → Grows a a
grows_itself a = record { has = λ l s h. h }

pub grows_further : (a b c : Area) → Grows a b → Grows b c → Grows a c
grows_further a b c p q = record { has = λ l s h. q.has l s (p.has l s h) }

-- an area grows with its Layers and its windows
pub both_grow : (from to : Area) → Spreads from.layers to.layers → Widens from.windows to.windows → Grows from to
both_grow from to layers windows = record { has = λ l s h. (layers l h.0, windows.has s h.1) }

-- and has the images of another one if its windows do
pub both_placed : (m : Map) (held all : Area) → Spreads held.layers all.layers
    → HasPlaced m held.windows all.windows → HasImages m held all
both_placed m held all layers windows = record { has = λ l s h. (layers l h.0, windows.has s h.1) }
