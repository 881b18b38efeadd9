-- What an array of a cell places, one level down.
use Rattle.std.specs.Prelude.{◌≡◌, ◌⊎◌, List, Bool, IsTrue, Any, pos}
use Rattle.lvl_grid.specs.declared.point.Point.{Point}
use Rattle.lvl_grid.specs.declared.point.Square.{Square}
use Rattle.lvl_grid.specs.declared.map.Map.{Map}
use Rattle.lvl_grid.specs.Placed.{IsPlaceOfCovered}
use Rattle.lvl_grid.specs.Turn.{image_square}
use Rattle.lvl_names.specs.declared.layer.Layer.{Layer}
use Rattle.lvl_cells.specs.Cells.{map_at}
use Rattle.lvl_cells.specs.Coverage.{moved_back}
use Rattle.lvl_compare.specs.Tops.{Draws}
use Rattle.lvl_changed.specs.declared.arrays.Array.{Array}
use Rattle.lvl_changed.specs.inside.Arrays.{as_reference}

-- the square is the image of one for which P holds, at one of the places of the array
abbrev pub IsUnder : Array → (Square → Type 0) → Square → Type 0
IsUnder a P s = Any (λ e. (t : Square) × (image_square (map_at (as_reference a) e) t ≡ s) × P t) a.shifts

-- no displacement
abbrev pub origin : Point
origin = record { x = pos 0; y = pos 0 }

-- the ring, placed by the map and moved by one of the shifts, covers the square
abbrev pub RingCovers : Map → List Point → List Point → Square → Type 0
RingCovers by ring shifts s = Any (λ e. IsPlaceOfCovered by origin ring (moved_back e s)) shifts

-- what is new covers what is old, and maybe some of what is added, but nothing else; if `all`, it covers all of that
pub record Adds (old new added : Draws) (all : Bool) : Type 0 where
  pub grown : (layer : Layer) (s : Square) → old layer s → new layer s
  pub inside : (layer : Layer) (s : Square) → new layer s → old layer s ⊎ added layer s
  pub held : IsTrue all → (layer : Layer) (s : Square) → added layer s → new layer s
