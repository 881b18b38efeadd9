-- Why a top covers a square, in words (own rules).
use Rattle.std.specs.Prelude.{◌≡◌, ℕ, List, map, slice_get, All, IsSomeAnd}
use Rattle.lvl_grid.specs.declared.point.Square.{Square}
use Rattle.lvl_names.specs.declared.layer.Layer.{Layer}
use Rattle.lvl_cells.specs.Cells.{PlainCell, Rings}
use Rattle.lvl_cells.specs.Checks.{Settled}
use Rattle.lvl_witness.specs.Witnesses.{IsWitness}
use Rattle.lvl_why.specs.declared.why.NamedStep.{NamedStep}
use Rattle.lvl_why.specs.declared.why.Why.{Why}

-- the cell at an index has this name
abbrev pub IsNamed : List (PlainCell Rings) → ℕ → List ℕ → Type 0
IsNamed cells k name = IsSomeAnd (slice_get cells k) (λ c. name ≡ c.name)

-- the name is that of the cell that the step places
abbrev pub IsNamedStep : List (PlainCell Rings) → NamedStep → Type 0
IsNamedStep cells n = IsNamed cells n.step.cell n.cell.items

-- the steps and the ring are a witness for the square on one of the Layers, and the names are those of the top and of
-- the cells that the steps place
pub record IsWhy (s : Settled) (layers : List Layer) (q : Square) (why : Why) : Type 0 where
  pub witness : IsWitness s layers q (map (λ n. n.step) why.steps.items) why.ring
  pub top : IsNamed s.cells s.top why.top.items
  pub names : All (IsNamedStep s.cells) why.steps.items
