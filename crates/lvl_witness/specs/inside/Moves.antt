-- Frames: placed cells, with the references and shifts that are still to be followed, and what they do next.
use Rattle.std.specs.Prelude.{◌≡◌, ◌≤◌, ◌<◌, ◌+◌, ◌-◌, ℕ, [], List, drop, length, sum_by, slice_get, Some, Any}
use Rattle.std.specs.Option.{option_map_or}
use Rattle.lvl_grid.specs.declared.point.Square.{Square}
use Rattle.lvl_grid.specs.declared.map.Map.{Map}
use Rattle.lvl_grid.specs.Turn.{image_square}
use Rattle.lvl_names.specs.declared.layer.Layer.{Layer}
use Rattle.lvl_cells.specs.Cells.{PlainCell, Rings}
use Rattle.lvl_cells.specs.Chains.{Chain}
use Rattle.lvl_cells.specs.Checks.{Settled}
use Rattle.lvl_flat.specs.inside.Visits.{Pick, picks_from, pick_weight, PickCovers}
use Rattle.lvl_witness.specs.declared.frame.Frame.{Frame}
use Rattle.lvl_witness.specs.declared.frame.Move.{Move}
use Rattle.lvl_witness.specs.declared.frame.Move.TheVariants.{Out, Past, Into}
use Rattle.lvl_witness.specs.declared.witness.Step.{Step}
use Rattle.lvl_witness.specs.Witnesses.{LeadsOn}

-- a frame of cell i, placed by the map m, that has followed no reference yet
abbrev pub begun : ℕ → Map → Frame
begun i m = record { cell = i; map = m; reference = 0; place = 0 }

-- the frame, at the place k of its reference
abbrev pub at_place : Frame → ℕ → Frame
at_place f k = record { cell = f.cell; map = f.map; reference = f.reference; place = k }

-- the references, each with one of its shifts, that a frame has still to follow
abbrev pub pending : List (PlainCell Rings) → Frame → List Pick
pending cells f = option_map_or (λ c. picks_from (drop f.reference c.references) f.place) (slice_get cells f.cell) []

-- the sum of the weights over the chains that a frame has still to follow
abbrev pub frame_weight : (PlainCell Rings → ℕ) → List (PlainCell Rings) → Frame → ℕ
frame_weight weight cells f = sum_by (pick_weight weight cells) (pending cells f)

-- the number of references of its cell that the frame hasn't finished
abbrev pub references_left : List (PlainCell Rings) → Frame → ℕ
references_left cells f = option_map_or (λ c. length c.references - f.reference) (slice_get cells f.cell) 0

-- what the frame has still to follow, placed by its map, covers the square
abbrev pub FrameCovers : List (PlainCell Rings) → Layer → Square → Frame → Type 0
FrameCovers cells layer q f =
    (t : Square) × (image_square f.map t ≡ q) × Any (PickCovers cells layer t) (pending cells f)

-- some chain from the top leads to the cell of the frame, placed by its map
pub record IsReached (s : Settled) (f : Frame) : Type 0 where
  pub top : PlainCell Rings
  pub is_top : slice_get s.cells s.top ≡ Some top
  pub cell : PlainCell Rings
  pub there : slice_get s.cells f.cell ≡ Some cell
  pub steps : ℕ
  pub chain : Chain s.cells top steps f.map cell

-- if it goes on at the place k of its reference, the frame covers no less of the square, and has no more to follow
pub record IsSkipped (cells : List (PlainCell Rings)) (q : Square) (f : Frame) (k : ℕ) : Type 0 where
  pub on : f.place ≤ k
  pub covers : (layer : Layer) → FrameCovers cells layer q f → FrameCovers cells layer q (at_place f k)
  pub less : (weight : PlainCell Rings → ℕ) → frame_weight weight cells (at_place f k) ≤ frame_weight weight cells f

-- the places of the frame's reference are skipped, and it goes on with the next reference
pub record IsPast (cells : List (PlainCell Rings)) (q : Square) (f rest : Frame) : Type 0 where
  pub cell_is : rest.cell ≡ f.cell
  pub map_is : rest.map ≡ f.map
  pub covers : (layer : Layer) → FrameCovers cells layer q f → FrameCovers cells layer q rest
  pub less : (weight : PlainCell Rings → ℕ) → frame_weight weight cells rest ≤ frame_weight weight cells f
  pub fewer : references_left cells rest < references_left cells f

-- places of the frame's reference are skipped, and at the next one the step leads to a cell, placed by the map m
pub record Enters (cells : List (PlainCell Rings)) (q : Square) (f : Frame) (step : Step) (m : Map) (rest : Frame)
    : Type 0 where
  pub cell : PlainCell Rings
  pub there : slice_get cells f.cell ≡ Some cell
  pub next : PlainCell Rings
  pub leads : LeadsOn cells f.map cell m next step
  pub reference_is : step.reference ≡ f.reference
  pub skipped : IsSkipped cells q f step.place
  pub rest_is : rest ≡ at_place f (step.place + 1)

-- the move is what the frame does next
abbrev pub IsMove : List (PlainCell Rings) → Square → Frame → Move → Type 0
IsMove cells q f Out = pending cells f ≡ []
IsMove cells q f (Past rest) = IsPast cells q f rest
IsMove cells q f (Into step m rest) = Enters cells q f step m rest
