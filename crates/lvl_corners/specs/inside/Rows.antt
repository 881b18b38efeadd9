-- The row at which the last band ends. This definition serves only the proofs.
use Rattle.std.specs.Prelude.{ℤ, pos, ◌-ℤ◌, cond}
use Rattle.std.specs.Ordering.{int_eq}
use Rattle.lvl_corners.specs.declared.bands.Row.{Row}
use Rattle.lvl_corners.specs.inside.Marks.{row_step}

-- what the intervals that end in the row add to the change at a point
abbrev pub ended_net : ℤ → ℤ → Row → ℤ
ended_net x y row = cond (int_eq row.y y) (pos 0 -ℤ row_step x row.intervals.items) (pos 0)
