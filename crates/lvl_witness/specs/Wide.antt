-- Points in 128 bits.
use Rattle.lvl_grid.specs.declared.point.Point.{Point}
use Rattle.lvl_witness.specs.declared.wide.WidePoint.{WidePoint}

-- the point with these coordinates
abbrev pub as_point : WidePoint → Point
as_point p = record { x = p.x; y = p.y }
