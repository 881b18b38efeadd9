-- What the two layouts of a pair draw.
use Rattle.std.specs.Prelude.{List}
use Rattle.lvl_grid.specs.declared.point.Square.{Square}
use Rattle.lvl_grid.specs.declared.point.Window.{Window}
use Rattle.lvl_flat.specs.Flattened.{TopCovers}
use Rattle.lvl_view.specs.Moved.{IsMoved}
use Rattle.lvl_compare.specs.Parts.{IsSeenIn}
use Rattle.lvl_compare.specs.Tops.{Draws}
use Rattle.lvl_compare.specs.declared.pair.Pair.{Pair}

-- what the first layout draws
abbrev pub ours : Pair → Draws
ours pair = TopCovers pair.first.now

-- what the second layout draws, on the Layers to which the view maps its own
abbrev pub theirs : Pair → Draws
theirs pair = IsMoved pair.view.now.pairs (TopCovers pair.second.now)

-- the squares that are compared in some windows: those of the view's window, if it has one
abbrev pub seen_in : Pair → List Window → Square → Type 0
seen_in pair = IsSeenIn pair.view.now.window
