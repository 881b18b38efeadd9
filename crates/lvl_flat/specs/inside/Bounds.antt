-- Boxes of points: widened, placed, and against a window.
use Rattle.std.specs.Prelude.{◌≡◌, ◌⊎◌, ℕ, List, slice_get, Option, Some, All, Contains, ◌+ℤ◌, ◌≤ℤ◌, pos}
use Rattle.lvl_grid.specs.declared.point.Point.{Point}
use Rattle.lvl_grid.specs.declared.point.Square.{Square}
use Rattle.lvl_grid.specs.declared.point.Window.{Window}
use Rattle.lvl_grid.specs.Clip.{IsInWindow}
use Rattle.lvl_grid.specs.declared.map.Map.{Map}
use Rattle.lvl_grid.specs.Turn.{image, shifted}
use Rattle.lvl_cells.specs.Cells.{PlainCell, PlainShape, PlainReference, Rings, map_at, cell_named}
use Rattle.lvl_cells.specs.Chains.{Chain, IsComposed}
use Rattle.lvl_flat.specs.declared.bounds.Bounds.{Bounds}
use Rattle.lvl_flat.specs.Boxes.{HoldsPoint, HoldsCell, FitsBounds}

-- every point in the box a is in the box b
pub record Widens (a b : Bounds) : Type 0 where
  pub holds : (p : Point) → HoldsPoint a p → HoldsPoint b p

-- the box has each point of the ring, moved by any displacement in the box of the shifts
abbrev pub HoldsRing : Bounds → Bounds → List Point → Type 0
HoldsRing b shifts ring = All (λ v. (e : Point) → HoldsPoint shifts e → HoldsPoint b (shifted e v)) ring

-- the box has all vertices of the shape at all of its shifts
abbrev pub HoldsOwn : Bounds → PlainShape Rings → Type 0
HoldsOwn b h = All (λ e. All (λ ring. All (λ v. HoldsPoint b (shifted e v)) ring) h.figure) h.shifts

-- the box has all that the chains through the reference at its shift e place
abbrev pub HoldsPick : List (PlainCell Rings) → Bounds → PlainReference → Point → Type 0
HoldsPick cells b r e =
    (d f : PlainCell Rings) (n : ℕ) (w m : Map) → cell_named cells r.cell ≡ Some d → Chain cells d n w f
    → IsComposed (map_at r e) w m → HoldsCell b m f

-- that holds for each of the references at each of its shifts
abbrev pub HoldsPicks : List (PlainCell Rings) → Bounds → List PlainReference → Type 0
HoldsPicks cells b references = All (λ r. (e : Point) → Contains r.shifts e → HoldsPick cells b r e) references

-- the box has the square: its lower left and its upper right corner
pub record HasSquare (b : Bounds) (s : Square) : Type 0 where
  pub low : HoldsPoint b (record { x = s.x; y = s.y })
  pub high : HoldsPoint b (record { x = s.x +ℤ pos 1; y = s.y +ℤ pos 1 })

-- the box is on one side of the window
abbrev pub IsBeside : Bounds → Window → Type 0
IsBeside b w = (b.high.x ≤ℤ w.x0) ⊎ ((w.x1 ≤ℤ b.low.x) ⊎ ((b.high.y ≤ℤ w.y0) ⊎ (w.y1 ≤ℤ b.low.y)))

-- no square in the box is in the window
pub record IsOutside (b : Bounds) (w : Window) : Type 0 where
  pub none : (s : Square) → HasSquare b s → ¬ IsInWindow w s

-- each square in the box is in the window
pub record IsInside (b : Bounds) (w : Window) : Type 0 where
  pub all : (s : Square) → HasSquare b s → IsInWindow w s

-- the box of cell k is known, and placed by the map it fits in 64 signed bits and has no square of the window
pub record IsPlacedOutside (known : List (Option Bounds)) (k : ℕ) (m : Map) (w : Window) : Type 0 where
  pub box : Bounds
  pub there : slice_get known k ≡ Some (Some box)
  pub placed : Bounds
  pub holds : (p : Point) → HoldsPoint box p → HoldsPoint placed (image m p)
  pub fits : FitsBounds placed
  pub outside : IsOutside placed w
