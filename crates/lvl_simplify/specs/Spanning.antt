-- The squares of a list of windows.
use Rattle.std.specs.Prelude.{List, Any}
use Rattle.lvl_grid.specs.declared.point.Square.{Square}
use Rattle.lvl_grid.specs.declared.point.Window.{Window}
use Rattle.lvl_grid.specs.Clip.{IsInWindow}

-- at least one of the windows has the square
abbrev pub IsWithinSome : List Window → Square → Type 0
IsWithinSome windows s = Any (λ window. IsInWindow window s) windows
