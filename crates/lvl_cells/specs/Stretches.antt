-- Stretches of the points of a ring.
use Rattle.std.specs.Prelude.{ℕ, ◌*◌, List, take, drop}
use Rattle.lvl_grid.specs.declared.point.Point.{Point}

-- the stretch at an index: 128 points, or as many as there are, of which the first has 128 times that index
abbrev pub stretch_at : List Point → ℕ → List Point
stretch_at points k = take 128 (drop (128 * k) points)
