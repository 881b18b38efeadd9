-- Chains of references, what they lead to, and how many there are (own rules).
use Rattle.std.specs.Prelude.{◌≡◌, ℕ, zero, suc, ◌+◌, ◌*◌, ◌≤◌, List, length, false, pos, if◌then◌else◌, Any, All}
use Rattle.std.specs.Prelude.{sum_by, Some}
use Rattle.std.specs.Option.{option_map_or}
use Rattle.lvl_grid.specs.declared.point.Point.{Point}
use Rattle.lvl_grid.specs.declared.map.Map.{Map}
use Rattle.lvl_grid.specs.declared.map.Turn.TheVariants.{R0}
use Rattle.lvl_grid.specs.Turn.{image, shifted, FitsPoint}
use Rattle.lvl_profile.specs.declared.limits.Limits.{Limits}
use Rattle.lvl_names.specs.declared.layer.Layer.{Layer}
use Rattle.lvl_cells.specs.Cells.{PlainCell, Rings, map_at, cell_named}
use Rattle.lvl_names.specs.Layers.{same_layer}

-- the map m is `inner` followed by `outer`, at every point
abbrev pub IsComposed : Map → Map → Map → Type 0
IsComposed outer inner m = (p : Point) → image m p ≡ image outer (image inner p)

-- the map that moves no point
abbrev pub unmoved : Map
unmoved = record { flip = false; turn = R0; at = record { x = pos 0; y = pos 0 } }

-- a chain of n references, each at one of its shifts, leads from the top to the cell d and places it by the map m
abbrev pub Chain : {F : Type 0} → List (PlainCell F) → PlainCell F → ℕ → Map → PlainCell F → Type 0
Chain cells top zero m d = (m ≡ unmoved) × (d ≡ top)
Chain {F} cells top (suc n) m d = (w : Map) × (c : PlainCell F) × Chain cells top n w c
    × Any (λ r. (cell_named cells r.cell ≡ Some d) × Any (λ e. IsComposed w (map_at r e) m) r.shifts) c.references

-- the cell d, placed by the map m, is in range: the shift of m, and the image of each vertex of d's rings at each shift
-- of its shape, fit in 64 signed bits; `rings` gives the rings of a figure
pub record IsInRange {F : Type 0} (rings : F → Rings) (m : Map) (d : PlainCell F) : Type 0 where
  pub shift : FitsPoint m.at
  pub vertices : All
      (λ h. All (λ e. All (λ ring. All (λ v. FitsPoint (image m (shifted e v))) ring) (rings h.figure)) h.shifts)
      d.shapes

-- the sum of the weights of the last cells of all chains of at most n references from the cell c; the empty chain, with
-- c as its last cell, is one of them
abbrev pub over_chains : {F : Type 0} → (PlainCell F → ℕ) → List (PlainCell F) → ℕ → PlainCell F → ℕ
over_chains weight cells zero c = weight c
over_chains weight cells (suc n) c =
    weight c
    + sum_by (λ r. length r.shifts * option_map_or (over_chains weight cells n) (cell_named cells r.cell) 0)
    c.references

-- the number of chains from the cell c; if no cell is placed in itself, each has fewer references than there are cells
abbrev pub chains : {F : Type 0} → List (PlainCell F) → PlainCell F → ℕ
chains cells c = over_chains (λ _. 1) cells (length cells) c

-- the number of rings that the cell itself draws: each counts once for each shift of its shape
abbrev pub own_rings : {F : Type 0} → (F → Rings) → PlainCell F → ℕ
own_rings rings c = sum_by (λ h. length (rings h.figure) * length h.shifts) c.shapes

-- the number of rings that the chains from the cell c place
abbrev pub placed_rings : {F : Type 0} → (F → Rings) → List (PlainCell F) → PlainCell F → ℕ
placed_rings rings cells c = over_chains (own_rings rings) cells (length cells) c

-- the number of rings that the cell itself draws on one Layer
abbrev pub own_rings_on : {F : Type 0} → (F → Rings) → Layer → PlainCell F → ℕ
own_rings_on rings layer c =
    sum_by (λ h. if same_layer h.layer layer then length (rings h.figure) * length h.shifts else 0) c.shapes

-- the number of rings that the chains from the cell c place on one Layer
abbrev pub placed_rings_on : {F : Type 0} → (F → Rings) → Layer → List (PlainCell F) → PlainCell F → ℕ
placed_rings_on rings layer cells c = over_chains (own_rings_on rings layer) cells (length cells) c

-- the top has no more chains and placed rings than the limits allow, and every cell that a chain places is in range
pub record FitsLimits {F : Type 0} (limits : Limits) (rings : F → Rings) (cells : List (PlainCell F))
    (top : PlainCell F) : Type 0 where
  pub few_chains : chains cells top ≤ limits.placed
  pub few_rings : placed_rings rings cells top ≤ limits.placed
  pub in_range : (n : ℕ) (m : Map) (d : PlainCell F) → Chain cells top n m d → IsInRange rings m d
