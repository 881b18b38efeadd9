-- Points and squares in 128 bits.
use Rattle.std.specs.Prelude.{ℕ, ◌≤◌, ◌^◌, unsigned_abs, Bool, true, false, ◌-ℤ◌, negsuc}
use Rattle.std.specs.Int.{int_min, int_max}
use Rattle.lvl_grid.specs.declared.point.Point.{Point}
use Rattle.lvl_grid.specs.declared.point.Square.{Square}
use Rattle.lvl_grid.specs.declared.map.Turn.{Turn}
use Rattle.lvl_grid.specs.declared.map.Turn.TheVariants.{R0, R90, R180, R270}
use Rattle.lvl_witness.specs.declared.wide.WidePoint.{WidePoint}

-- the square with this lower left corner
abbrev pub as_square : WidePoint → Square
as_square s = record { x = s.x; y = s.y }

-- the absolute value of each coordinate is at most 2 to the power of `bits`
pub record IsSmall (bits : ℕ) (s : WidePoint) : Type 0 where
  pub x_small : unsigned_abs s.x ≤ 2 ^ bits
  pub y_small : unsigned_abs s.y ≤ 2 ^ bits

-- the square that the turn turns to this one
abbrev pub turned_back : Turn → Square → Square
turned_back R0 s = s
turned_back R90 s = record { x = s.y; y = negsuc 0 -ℤ s.x }
turned_back R180 s = record { x = negsuc 0 -ℤ s.x; y = negsuc 0 -ℤ s.y }
turned_back R270 s = record { x = negsuc 0 -ℤ s.y; y = s.x }

-- the square that is reflected to this one if the flag is set
abbrev pub reflected_back : Bool → Square → Square
reflected_back false s = s
reflected_back true s = record { x = s.x; y = negsuc 0 -ℤ s.y }

-- the lower left and the upper right corner of the least rectangle that has both points
abbrev pub lesser_of : Point → Point → Point
lesser_of p q = record { x = int_min p.x q.x; y = int_min p.y q.y }

abbrev pub greater_of : Point → Point → Point
greater_of p q = record { x = int_max p.x q.x; y = int_max p.y q.y }
