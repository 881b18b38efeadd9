-- The shifts of what keeps no list for the zero shift alone.
use Rattle.std.specs.Prelude.{List, Option, Some, None}
use Rattle.std.specs.Borrow.{Bor}
use Rattle.std.specs.Global.{Box}
use Rattle.lvl_grid.specs.declared.point.Point.{Point}
use Rattle.lvl_names.specs.Shifts.{one_place}

-- the shifts in the box, or the zero shift alone without a box
abbrev pub shifts_beside : Option (Box (List Point)) → List Point
shifts_beside None = one_place
shifts_beside (Some b) = b.value

-- the borrowed shifts, or the zero shift alone if none are borrowed
abbrev pub borrowed_shifts : Option (Bor (List Point)) → List Point
borrowed_shifts None = one_place
borrowed_shifts (Some b) = b.now
