-- The corners of a set of squares of the unbounded grid (own rule).
use Rattle.std.specs.Prelude.{◌≡◌, ◌≢◌, Bool, List, ℤ, pos, ◌-ℤ◌, ◌<ℤ◌, ◌≤ℤ◌, ◌⊎◌, ◌↔◌, IsTrue, Contains, cond}
use Rattle.std.specs.Prelude.{FitsSigned}
use Rattle.std.specs.Int.{w8, w64}
use Rattle.std.specs.List.{AllPairs}
use Rattle.lvl_grid.specs.declared.point.Square.{Square}
use Rattle.lvl_corners.specs.declared.corner.Corner.{Corner}

-- 1 for true, 0 for false
abbrev pub bit : Bool → ℤ
bit b = cond b (pos 1) (pos 0)

-- the change at a point: of the four squares around it, the number of covered ones at its upper right and lower left,
-- less the number of covered ones at its upper left and lower right
abbrev pub change_at : (Square → Bool) → ℤ → ℤ → ℤ
change_at covered x y =
    (bit (covered (record { x = x; y = y })) -ℤ bit (covered (record { x = x -ℤ pos 1; y = y })))
    -ℤ (bit (covered (record { x = x; y = y -ℤ pos 1 })) -ℤ bit (covered (record { x = x -ℤ pos 1; y = y -ℤ pos 1 })))

-- the first corner comes before the second: by x, then by y
abbrev pub ComesBefore : Corner → Corner → Type 0
ComesBefore k l = (k.x <ℤ l.x) ⊎ ((k.x ≡ l.x) × (k.y <ℤ l.y))

-- the corners of a set of squares: all points at which the change isn't 0, each with its change, in order
pub record AreCorners (covered : Square → Bool) (corners : List Corner) : Type 0 where
  pub rising : AllPairs ComesBefore corners
  pub each : (k : Corner) → Contains corners k ↔ ((k.change ≢ pos 0) × (k.change ≡ change_at covered k.x k.y))

-- the covered squares are bounded on the left and below
pub record IsBounded (covered : Square → Bool) : Type 0 where
  pub left : ℤ
  pub bottom : ℤ
  pub each : (s : Square) → IsTrue (covered s) → (left ≤ℤ s.x) × (bottom ≤ℤ s.y)

-- the list is that of the corners of the squares for which P holds, and these are bounded on the left and below
pub record AreCornersOf (P : Square → Type 0) (corners : List Corner) : Type 0 where
  pub covered : Square → Bool
  pub is_covered : (s : Square) → IsTrue (covered s) ↔ P s
  pub bounded : IsBounded covered
  pub corners_are : AreCorners covered corners

-- the coordinates fit in 64 signed bits, and the change in 8
pub record FitsCorner (k : Corner) : Type 0 where
  pub x_fits : FitsSigned w64 k.x
  pub y_fits : FitsSigned w64 k.y
  pub change_fits : FitsSigned w8 k.change
