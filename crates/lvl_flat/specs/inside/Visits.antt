-- Visits: placed cells, with the references and shifts that are still to be followed.
use Rattle.std.specs.Prelude.{◌≡◌, ℕ, List, [], ◌∷◌, ◌++◌, map, flat_map, drop, length, sum_by, slice_get, Some, Any}
use Rattle.std.specs.Prelude.{Contains, IsSomeAnd}
use Rattle.std.specs.Option.{option_map_or}
use Rattle.lvl_grid.specs.declared.point.Point.{Point}
use Rattle.lvl_grid.specs.declared.point.Square.{Square}
use Rattle.lvl_grid.specs.declared.map.Map.{Map}
use Rattle.lvl_grid.specs.Turn.{image_square}
use Rattle.lvl_grid.specs.Winding.{SomeCovers}
use Rattle.lvl_names.specs.declared.layer.Layer.{Layer}
use Rattle.lvl_cells.specs.Cells.{PlainCell, PlainReference, Rings, each_ring, map_at, cell_named}
use Rattle.lvl_cells.specs.Chains.{Chain, IsComposed, IsInRange, over_chains}
use Rattle.lvl_cells.specs.Coverage.{CellCovers, PullsBack}
use Rattle.lvl_flat.specs.declared.visit.Visit.{Visit}

-- a reference and one of its shifts
abbrev pub Pick : Type 0
Pick = PlainReference × Point

-- each reference with each of its shifts
abbrev pub picks : List PlainReference → List Pick
picks references = flat_map (λ r. map (λ e. (r, e)) r.shifts) references

-- each reference with each of its shifts, but for the first `place` shifts of the first reference
abbrev pub picks_from : List PlainReference → ℕ → List Pick
picks_from [] place = []
picks_from (r ∷ references) place = map (λ e. (r, e)) (drop place r.shifts) ++ picks references

-- the picks that a visit has still to follow
abbrev pub pending : List (PlainCell Rings) → Visit → List Pick
pending cells v = option_map_or (λ c. picks_from (drop v.reference c.references) v.place) (slice_get cells v.cell) []

-- the sum of the weights over the chains that begin with the pick
abbrev pub pick_weight : (PlainCell Rings → ℕ) → List (PlainCell Rings) → Pick → ℕ
pick_weight weight cells p = option_map_or (over_chains weight cells (length cells)) (cell_named cells p.0.cell) 0

-- the sum of the weights over the chains that a visit has still to follow
abbrev pub visit_weight : (PlainCell Rings → ℕ) → List (PlainCell Rings) → Visit → ℕ
visit_weight weight cells v = sum_by (pick_weight weight cells) (pending cells v)

-- the cell of the pick, placed by it, covers the square
abbrev pub PickCovers : List (PlainCell Rings) → Layer → Square → Pick → Type 0
PickCovers cells layer t p =
    IsSomeAnd (cell_named cells p.0.cell) (λ d. PullsBack (CellCovers SomeCovers cells layer d) p.0 t p.1)

-- what the visit has still to follow, placed by its map, covers the square
abbrev pub VisitCovers : List (PlainCell Rings) → Layer → Square → Visit → Type 0
VisitCovers cells layer s v =
    (t : Square) × (image_square v.map t ≡ s) × Any (PickCovers cells layer t) (pending cells v)

-- all chains from the cell, placed by the map, are in range
abbrev pub FitsUnder : List (PlainCell Rings) → Map → PlainCell Rings → Type 0
FitsUnder cells m c =
    (n : ℕ) (w : Map) (d : PlainCell Rings) → Chain cells c n w d → (v : Map) → IsComposed m w v
    → IsInRange each_ring v d

-- all chains that begin with one of the picks, placed by the map, are in range
abbrev pub PicksFit : List (PlainCell Rings) → Map → List Pick → Type 0
PicksFit cells m ps =
    (p : Pick) (d : PlainCell Rings) (v : Map) → Contains ps p → cell_named cells p.0.cell ≡ Some d
    → IsComposed m (map_at p.0 p.1) v → FitsUnder cells v d

-- the visit is of the cell to which some chain from the top leads, placed by its map
pub record IsVisit (cells : List (PlainCell Rings)) (top : PlainCell Rings) (v : Visit) : Type 0 where
  pub cell : PlainCell Rings
  pub there : slice_get cells v.cell ≡ Some cell
  pub steps : ℕ
  pub chain : Chain cells top steps v.map cell
