-- Coordinates within 64 signed bits (own rule).
use Rattle.std.specs.Prelude.{◌&&◌, ◌^◌, nat_lt, Bool, if◌then◌else◌, Option, Some, None, ℤ, pos, negsuc, ◌+ℤ◌}
use Rattle.lvl_grid.specs.declared.point.Point.{Point}
use Rattle.oasis_values.specs.Deltas.{to}

-- whether the coordinate fits in 64 signed bits
abbrev pub is_in_range : ℤ → Bool
is_in_range (pos n) = nat_lt n (2 ^ 63)
is_in_range (negsuc n) = nat_lt n (2 ^ 63)

-- whether both coordinates fit in 64 signed bits
abbrev pub is_point_in_range : Point → Bool
is_point_in_range p = is_in_range p.x && is_in_range p.y

-- the point, if both coordinates fit
abbrev pub in_range : Point → Option Point
in_range p = if is_point_in_range p then Some p else None

-- the sum of two points, if it fits
abbrev pub sum : Point → Point → Option Point
sum p q = in_range (to (p.x +ℤ q.x) (p.y +ℤ q.y))
