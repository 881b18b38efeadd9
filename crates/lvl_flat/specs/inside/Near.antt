-- Rings as they wind round the squares of a window.
use Rattle.std.specs.Prelude.{◌≡◌, ◌<◌, ◌≤◌, ◌-◌, ◌*◌, ℕ, List, [], ◌∷◌, map, ◌++◌, take, drop, length, All}
use Rattle.lvl_grid.specs.declared.map.Map.{Map}
use Rattle.lvl_grid.specs.declared.point.Point.{Point}
use Rattle.lvl_grid.specs.declared.point.Square.{Square}
use Rattle.lvl_grid.specs.declared.point.Window.{Window}
use Rattle.lvl_grid.specs.Clip.{IsInWindow}
use Rattle.lvl_grid.specs.Placed.{placed_point}
use Rattle.lvl_grid.specs.Winding.{last_or, winding}
use Rattle.lvl_flat.specs.declared.bounds.Bounds.{Bounds}
use Rattle.lvl_flat.specs.Boxes.{HoldsPoint}
use Rattle.lvl_flat.specs.inside.Bounds.{IsBeside}

-- placed, both lists of points wind alike round each square of the window
abbrev pub WindAlike : Map → Point → Window → List Point → List Point → Type 0
WindAlike m e w ps qs =
    (s : Square) → IsInWindow w s → winding (map (placed_point m e) ps) s ≡ winding (map (placed_point m e) qs) s

-- wherever the first points are in a list, the others may be instead
pub record MayBe (m : Map) (e : Point) (w : Window) (from to : List Point) : Type 0 where
  pub alike : (before after : List Point) → WindAlike m e w (before ++ (from ++ after)) (before ++ (to ++ after))

-- the points of the stretches of a ring from one up to another, which is excluded
abbrev pub run_at : List Point → ℕ → ℕ → List Point
run_at ring k end = take (128 * (end - k)) (drop (128 * k) ring)

-- points of a ring are appended, or others that may be in their place
pub record AddsRun (m : Map) (e : Point) (w : Window) (run from to : List Point) : Type 0 where
  pub part : List Point
  pub added : to ≡ from ++ part
  pub may_be : MayBe m e w run part

-- the box, or one that is greater, is on one side of the window where it is placed
pub record IsPlacedBeside (m : Map) (e : Point) (w : Window) (b : Bounds) : Type 0 where
  pub placed : Bounds
  pub held : (p : Point) → HoldsPoint b p → HoldsPoint placed (placed_point m e p)
  pub beside : IsBeside placed w

-- the stretches from one up to another, which is excluded, are whole, and in such a box
pub record IsRunBeside (m : Map) (e : Point) (w : Window) (ring : List Point) (k end : ℕ) : Type 0 where
  pub order : k < end
  pub whole : 128 * end ≤ length ring
  pub box : Bounds
  pub all : All (HoldsPoint box) (run_at ring k end)
  pub beside : IsPlacedBeside m e w box

-- the first point and the last of some points, and a corner between them
pub record AreEnds (run ends : List Point) : Type 0 where
  pub first : Point
  pub rest : List Point
  pub is : run ≡ first ∷ rest
  pub ends_are : ends ≡ first ∷ record { x = first.x; y = (last_or first rest).y } ∷ last_or first rest ∷ []
