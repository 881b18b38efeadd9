-- The map by which a reference places its cell.
use Rattle.std.specs.Prelude.{◌≡◌, ℕ, slice_get, Some}
use Rattle.lvl_grid.specs.declared.point.Point.{Point}
use Rattle.lvl_grid.specs.declared.map.Map.{Map}
use Rattle.lvl_cells.specs.Cells.{PlainReference, map_at}

-- the reference places its cell by the map m at its shift with the index `place`
pub record IsPlacing (r : PlainReference) (place : ℕ) (m : Map) : Type 0 where
  pub shift : Point
  pub there : slice_get r.shifts place ≡ Some shift
  pub map_is : m ≡ map_at r shift
