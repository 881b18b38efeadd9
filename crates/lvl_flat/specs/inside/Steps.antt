-- The steps of the walk.
use Rattle.std.specs.Prelude.{◌≡◌, ◌<◌, ℕ, List, ◌∷◌, [], Contains, slice_get, Some}
use Rattle.lvl_grid.specs.declared.map.Map.{Map}
use Rattle.lvl_grid.specs.Turn.{image, FitsPoint}
use Rattle.lvl_cells.specs.Cells.{PlainCell, Rings, map_at, cell_named}
use Rattle.lvl_cells.specs.Chains.{IsComposed}
use Rattle.lvl_flat.specs.declared.visit.Visit.{Visit}
use Rattle.lvl_flat.specs.declared.walk.Step.{Step}
use Rattle.lvl_flat.specs.declared.walk.Step.TheVariants.{Done, Past, Into, Out}
use Rattle.lvl_flat.specs.inside.Visits.{Pick, pending}
use Rattle.lvl_flat.specs.inside.Walking.{references_left}

-- the visit goes on with the next reference, and has the same picks still to follow
pub record IsPast (cells : List (PlainCell Rings)) (v rest : Visit) : Type 0 where
  pub pending_is : pending cells v ≡ pending cells rest
  pub map_is : rest.map ≡ v.map
  pub cell_is : rest.cell ≡ v.cell
  pub fewer : references_left cells rest < references_left cells v

-- the next pick of the visit places the cell at index i by the map m, and `rest` is the visit after it
pub record IsInto (cells : List (PlainCell Rings)) (v : Visit) (i : ℕ) (m : Map) (rest : Visit) : Type 0 where
  pub pick : Pick
  pub next : PlainCell Rings
  pub pending_is : pending cells v ≡ pick ∷ pending cells rest
  pub named : cell_named cells pick.0.cell ≡ Some next
  pub there : slice_get cells i ≡ Some next
  pub placed : IsComposed v.map (map_at pick.0 pick.1) m
  pub in_range : FitsPoint m.at
  pub map_is : rest.map ≡ v.map
  pub cell_is : rest.cell ≡ v.cell
  pub reference_is : rest.reference ≡ v.reference

-- some pick that the visit has still to follow would place the cell at index i with a shift outside 64 signed bits
pub record IsOut (cells : List (PlainCell Rings)) (v : Visit) (i : ℕ) : Type 0 where
  pub pick : Pick
  pub next : PlainCell Rings
  pub has : Contains (pending cells v) pick
  pub named : cell_named cells pick.0.cell ≡ Some next
  pub there : slice_get cells i ≡ Some next
  pub out : ¬ FitsPoint (image v.map (map_at pick.0 pick.1).at)

-- the step is what the visit does next
abbrev pub IsStep : List (PlainCell Rings) → Visit → Step → Type 0
IsStep cells v Done = pending cells v ≡ []
IsStep cells v (Past rest) = IsPast cells v rest
IsStep cells v (Into i m rest) = IsInto cells v i m rest
IsStep cells v (Out i) = IsOut cells v i
