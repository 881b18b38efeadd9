-- The state of the search: the frames that aren't finished, and the steps between their cells.
use Rattle.std.specs.Prelude.{◌≡◌, ◌+◌, ◌-◌, ℕ, List, drop, length, slice_get, sum_by, Some, Any, Contains}
use Rattle.lvl_grid.specs.declared.point.Square.{Square}
use Rattle.lvl_grid.specs.declared.map.Map.{Map}
use Rattle.lvl_grid.specs.Turn.{image_square}
use Rattle.lvl_grid.specs.Winding.{SomeCovers}
use Rattle.lvl_names.specs.declared.layer.Layer.{Layer}
use Rattle.lvl_cells.specs.Cells.{PlainCell, Rings}
use Rattle.lvl_cells.specs.Chains.{unmoved}
use Rattle.lvl_cells.specs.Checks.{IsChecked, Settled}
use Rattle.lvl_cells.specs.Coverage.{CellCovers}
use Rattle.lvl_flat.specs.inside.Walking.{toil}
use Rattle.lvl_witness.specs.declared.frame.Frame.{Frame}
use Rattle.lvl_witness.specs.declared.witness.PlacedRing.{PlacedRing}
use Rattle.lvl_witness.specs.declared.witness.Step.{Step}
use Rattle.lvl_witness.specs.Witnesses.{IsCoveringRing, Leads}
use Rattle.lvl_witness.specs.inside.Moves.{begun, frame_weight, references_left, FrameCovers}

-- the cell c, placed by the map, covers the square on the Layer
abbrev pub PlacedCovers : List (PlainCell Rings) → Layer → Square → Map → PlainCell Rings → Type 0
PlacedCovers cells layer q m c = (t : Square) × (image_square m t ≡ q) × CellCovers SomeCovers cells layer c t

-- the ring is one of the cell at index i, if there is one; placed by the map, it covers the square on one of the Layers
abbrev pub IsRingOfCell : List (PlainCell Rings) → ℕ → Map → List Layer → Square → PlacedRing → Type 0
IsRingOfCell cells i m layers q ring =
    (c : PlainCell Rings) → slice_get cells i ≡ Some c → IsCoveringRing c.shapes m layers q ring

-- no own shape of the cell at index i covers the square: what the cell covers of it, placed by the map, a frame that
-- begins with the cell has still to cover
abbrev pub HasNoRing : List (PlainCell Rings) → ℕ → Map → List Layer → Square → Type 0
HasNoRing cells i m layers q =
    (layer : Layer) (c : PlainCell Rings) → Contains layers layer → slice_get cells i ≡ Some c
    → PlacedCovers cells layer q m c → FrameCovers cells layer q (begun i m)

-- if the placed cell covers the square on one of the Layers, one of the frames from index k on has still to cover it
pub record IsLeft (cells : List (PlainCell Rings)) (layers : List Layer) (q : Square) (frames : List Frame) (k : ℕ)
    (m : Map) (c : PlainCell Rings) : Type 0 where
  pub left : (layer : Layer) → Contains layers layer → PlacedCovers cells layer q m c
      → Any (FrameCovers cells layer q) (drop k frames)

-- the frame f at index k is of the cell to which the first k steps lead, and of what this cell covers, the frames from
-- there on have all still to cover
pub record IsPlaced (cells : List (PlainCell Rings)) (layers : List Layer) (q : Square) (top : PlainCell Rings)
    (frames : List Frame) (steps : List Step) (k : ℕ) (f : Frame) : Type 0 where
  pub cell : PlainCell Rings
  pub there : slice_get cells f.cell ≡ Some cell
  pub leads : Leads cells top steps k f.map cell
  pub left : IsLeft cells layers q frames k f.map cell

-- each frame is of the cell to which the steps before it lead, and none of what the top covers is lost
pub record IsSearch (s : Settled) (layers : List Layer) (q : Square) (frames : List Frame) (steps : List Step)
    : Type 0 where
  pub checked : IsChecked s
  pub top : PlainCell Rings
  pub is_top : slice_get s.cells s.top ≡ Some top
  pub depth : length steps ≡ length frames - 1
  pub left : IsLeft s.cells layers q frames 0 unmoved top
  pub placed : (k : ℕ) (f : Frame) → slice_get frames k ≡ Some f
      → IsPlaced s.cells layers q top frames steps k f

-- the measure of the search: at most this many moves are left
abbrev pub work_left : List (PlainCell Rings) → List Frame → ℕ
work_left cells frames =
    sum_by (frame_weight toil cells) frames + sum_by (λ f. 1 + references_left cells f) frames
