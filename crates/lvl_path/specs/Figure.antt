-- Figures: what a shape draws, as rings or as a path.
use Rattle.std.specs.Prelude.{List, Any}
use Rattle.lvl_grid.specs.declared.point.Point.{Point}
use Rattle.lvl_grid.specs.declared.point.Square.{Square}
use Rattle.lvl_grid.specs.Winding.{Covers}
use Rattle.lvl_path.specs.declared.band.Reach.{Reach}
use Rattle.lvl_path.specs.Repeats.{without_repeats}
use Rattle.lvl_path.specs.Runs.{PathCovers, path_rings}

-- a list of rings; or a path: its points, half its width, and how far it reaches beyond its start and its end. A point
-- that equals the one before draws nothing of its own (own rule)
pub data Figure : Type 0 where
  rings : List (List Point) → Figure
  path : List Point → Reach → Figure

-- the rings of a figure: the ones that it has, or those of the bands of its path
abbrev pub figure_rings : Figure → List (List Point)
figure_rings (rings rs) = rs
figure_rings (path ps w) = path_rings (without_repeats ps) w

-- the figure covers the square: at least one of its rings does, or its path does
abbrev pub FigureCovers : Figure → Square → Type 0
FigureCovers (rings rs) s = Any (λ ring. Covers ring s) rs
FigureCovers (path ps w) s = PathCovers (without_repeats ps) w s
