-- The state of the walk: the rings that are drawn, and the visits that aren't finished.
use Rattle.std.specs.Prelude.{◌≡◌, ◌+◌, ◌-◌, ◌↔◌, ◌⊎◌, ℕ, List, length, map, sum_by, slice_get, Some, All, Any}
use Rattle.std.specs.Prelude.{Contains}
use Rattle.std.specs.Option.{option_map_or}
use Rattle.lvl_grid.specs.declared.point.Square.{Square}
use Rattle.lvl_grid.specs.Winding.{SomeCovers}
use Rattle.lvl_names.specs.declared.layer.Layer.{Layer}
use Rattle.lvl_cells.specs.Cells.{PlainCell, Rings, each_ring}
use Rattle.lvl_cells.specs.Chains.{own_rings_on, placed_rings_on}
use Rattle.lvl_cells.specs.Coverage.{CellCovers}
use Rattle.lvl_cells.specs.Checks.{Settled}
use Rattle.lvl_flat.specs.declared.scope.Scope.{Scope}
use Rattle.lvl_flat.specs.declared.scope.Scope.TheVariants.{Everything, Within}
use Rattle.lvl_flat.specs.declared.visit.Visit.{Visit}
use Rattle.lvl_flat.specs.Flattened.{AllInRange, IsFlattened, IsFlattenedWithin}
use Rattle.lvl_flat.specs.Sheet.{PlainSheet}
use Rattle.lvl_flat.specs.Sheets.{AreSorted, rings_on}
use Rattle.lvl_flat.specs.inside.Scopes.{IsOfScope}
use Rattle.lvl_flat.specs.inside.Visits.{pending, visit_weight, VisitCovers, PicksFit, IsVisit}

-- the Layer of every shape of every cell is in the list
abbrev pub AllListed : List Layer → List (PlainCell Rings) → Type 0
AllListed layers cells = All (λ c. All (λ h. Contains layers h.layer) c.shapes) cells

-- the sheets cover the square on the Layer
abbrev pub SheetsCover : List PlainSheet → Layer → Square → Type 0
SheetsCover sheets layer q = SomeCovers (rings_on layer sheets) q

-- the walk over what is in a scope on the Layers of a list, each of which has a sheet: of these squares the top covers
-- exactly those that are drawn or that a visit has still to cover, and no others are drawn. If every shape is on one of
-- these Layers, all is in range if what the visits have still to follow is; and if everything is drawn, each placed ring
-- is drawn or still to come
pub record IsWalking (s : Settled) (layers : List Layer) (scope : Scope) (sheets : List PlainSheet)
    (stack : List Visit) : Type 0 where
  pub top : PlainCell Rings
  pub is_top : slice_get s.cells s.top ≡ Some top
  pub covers : (layer : Layer) (q : Square) → IsOfScope layers scope layer q
      → CellCovers SomeCovers s.cells layer top q
      ↔ (SheetsCover sheets layer q ⊎ Any (VisitCovers s.cells layer q) stack)
  pub within : (layer : Layer) (q : Square) → SheetsCover sheets layer q → IsOfScope layers scope layer q
  pub fits : AllListed layers s.cells
      → ((v : Visit) → Contains stack v → PicksFit s.cells v.map (pending s.cells v)) → AllInRange s.cells top
  pub counts : scope ≡ Everything → AllListed layers s.cells → (layer : Layer)
      → length (rings_on layer sheets) + sum_by (visit_weight (own_rings_on each_ring layer) s.cells) stack
      ≡ placed_rings_on each_ring layer s.cells top
  pub visits : (v : Visit) → Contains stack v → IsVisit s.cells top v
  pub sorted : AreSorted sheets
  pub layers_are : map (λ sheet. sheet.layer) sheets ≡ layers

-- the sheets of a walk that is over: those of everything, if every shape is on one of the Layers, or those of a window
abbrev pub IsFlattenedIn : Settled → List Layer → Scope → List PlainSheet → Type 0
IsFlattenedIn s layers Everything sheets = AllListed layers s.cells → IsFlattened s sheets
IsFlattenedIn s layers (Within window) sheets = IsFlattenedWithin s layers window sheets

-- the number of references of its cell that the visit hasn't finished
abbrev pub references_left : List (PlainCell Rings) → Visit → ℕ
references_left cells v = option_map_or (λ c. length c.references - v.reference) (slice_get cells v.cell) 0

-- the steps that a placed cell takes: two, and one for each reference
abbrev pub toil : PlainCell Rings → ℕ
toil c = 2 + length c.references

-- the measure of the walk: at most this many steps are left
abbrev pub work : List (PlainCell Rings) → List Visit → ℕ
work cells stack = sum_by (visit_weight toil cells) stack + sum_by (λ v. 1 + references_left cells v) stack
