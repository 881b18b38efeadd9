-- The squares that are compared under an optional window.
use Rattle.std.specs.Prelude.{Option, None, Some, option_map}
use Rattle.std.proofs.Common.{Bor}
use Rattle.lvl_grid.specs.declared.point.Square.{Square}
use Rattle.lvl_grid.specs.declared.point.Window.{Window}
use Rattle.lvl_grid.specs.Clip.{IsInWindow}

-- the window, if one is given
abbrev pub window_of : Option (Bor Window) → Option Window
window_of given = option_map (λ w. w.now) given

-- the window has the square, or there is no window
abbrev pub IsShown : Option Window → Square → Type 0
IsShown None s = Unit {0}
IsShown (Some w) s = IsInWindow w s
