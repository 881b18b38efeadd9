-- The last cells of chains, and sums over them.
use Rattle.std.specs.Prelude.{◌≡◌, ℕ, zero, suc, ◌≤◌, List, [], ◌∷◌, flat_map, sum_by, Contains, ◌↔◌}
use Rattle.std.specs.Option.{option_map_or}
use Rattle.lvl_grid.specs.declared.map.Map.{Map}
use Rattle.lvl_cells.specs.Cells.{PlainCell, Rings, cell_named}
use Rattle.lvl_cells.specs.Chains.{Chain, over_chains}
use Rattle.lvl_flat.specs.inside.Visits.{picks}

-- the last cells of all chains of at most n references from a cell, one for each chain: the cell itself, then, for each
-- reference at each of its shifts, those of the chains from the cell that it names
abbrev pub ends : List (PlainCell Rings) → ℕ → PlainCell Rings → List (PlainCell Rings)
ends cells zero c = c ∷ []
ends cells (suc n) c =
    c ∷ flat_map (λ p. option_map_or (ends cells n) (cell_named cells p.0.cell) []) (picks c.references)

-- a sum of weights over all chains is the sum over the list of their last cells, and this list has exactly the cells
-- that some chain leads to
pub record AddsUp (cells : List (PlainCell Rings)) (n : ℕ) (c : PlainCell Rings) : Type 0 where
  pub sum : (weight : PlainCell Rings → ℕ) → over_chains weight cells n c ≡ sum_by weight (ends cells n c)
  pub led : (d : PlainCell Rings) → Contains (ends cells n c) d ↔ ((k : ℕ) × (m : Map) × (k ≤ n) × Chain cells c k m d)
