-- What remains of two cells where both have the same.
use Rattle.std.specs.Prelude.{◌↔◌, ◌⊎◌}
use Rattle.lvl_grid.specs.declared.point.Square.{Square}
use Rattle.lvl_names.specs.declared.layer.Layer.{Layer}
use Rattle.lvl_view.specs.Moved.{IsMoved}
use Rattle.lvl_compare.specs.Tops.{Draws}
use Rattle.lvl_compare.specs.declared.pair.Pair.{Pair}
use Rattle.lvl_changed.specs.declared.area.Area.{Area}
use Rattle.lvl_changed.specs.declared.placed.Placed.{Placed}
use Rattle.lvl_changed.specs.declared.references.Partners.{Partners}
use Rattle.lvl_changed.specs.declared.remains.Remains.{Remains}
use Rattle.lvl_changed.specs.declared.remains.Rests.{Rests}
use Rattle.lvl_changed.specs.inside.Areas.{IsIn}
use Rattle.lvl_changed.specs.inside.Arrays.{all_places, every_place}
use Rattle.lvl_changed.specs.inside.Placements.{PlacedCover}
use Rattle.lvl_changed.specs.inside.Shapes.{ShapesCover}

-- cells of the second library that are placed cover the square, with the Layers mapped
abbrev pub PlacedDraws : Pair → Placed → Draws
PlacedDraws pair p = IsMoved pair.view.now.pairs (PlacedCover pair.second.now.cells (all_places p))

-- what remains of a cell covers the square
abbrev pub RemainsDraw : Pair → Remains → Draws
RemainsDraw pair r layer s = ShapesCover r.shapes layer s ⊎ PlacedDraws pair r.placed layer s

-- what remains of the first cell does
abbrev pub OursDraw : Pair → Rests → Draws
OursDraw pair r layer s =
    RemainsDraw pair r.ours layer s ⊎ PlacedCover pair.first.now.cells (every_place r.alone.items) layer s

-- what remains of the second
abbrev pub TheirsDraw : Pair → Rests → Draws
TheirsDraw pair r = RemainsDraw pair r.theirs

-- outside of the area, a and b draw the same where x and y do
abbrev pub AreSameIf : Area → Draws → Draws → Draws → Draws → Type 0
AreSameIf area a b x y =
    (layer : Layer) (s : Square) → (¬ IsIn area layer s) → x layer s ↔ y layer s → a layer s ↔ b layer s

-- of a there remains x, and of b there remains y: each is a part, and what isn't is in both
pub record Remain (a b x y : Type 0) : Type 0 where
  pub ours_inside : x → a
  pub ours_held : a → x ⊎ b
  pub theirs_inside : y → b
  pub theirs_held : b → y ⊎ a

-- that holds of all squares outside of the area
abbrev pub RemainOutside : Area → Draws → Draws → Draws → Draws → Type 0
RemainOutside area a b x y =
    (layer : Layer) (s : Square) → (¬ IsIn area layer s) → Remain (a layer s) (b layer s) (x layer s) (y layer s)

-- what partners and cells without a partner cover together
abbrev pub PartnersDraw : Pair → Partners → Draws
PartnersDraw pair p layer s =
    PlacedDraws pair p.placed layer s ⊎ PlacedCover pair.first.now.cells (every_place p.alone.items) layer s

-- outside of the area, new covers what old and what is added do
abbrev pub AddsOutside : Area → Draws → Draws → Draws → Type 0
AddsOutside area old new added =
    (layer : Layer) (s : Square) → (¬ IsIn area layer s) → new layer s ↔ (old layer s ⊎ added layer s)
