-- The squares of some windows (own rule).
use Rattle.std.specs.Prelude.{List, Option, Any}
use Rattle.lvl_grid.specs.declared.point.Square.{Square}
use Rattle.lvl_grid.specs.declared.point.Window.{Window}
use Rattle.lvl_grid.specs.Clip.{IsInWindow}
use Rattle.lvl_columns.specs.Windows.{IsShown}

-- one of the windows has the square
abbrev pub SomeHas : List Window → Square → Type 0
SomeHas windows s = Any (λ w. IsInWindow w s) windows

-- the optional window has the square, and so does one of the windows of the list
abbrev pub IsSeenIn : Option Window → List Window → Square → Type 0
IsSeenIn seen windows s = IsShown seen s × SomeHas windows s
