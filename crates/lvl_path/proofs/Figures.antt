-- The rings of a figure cover exactly what the figure covers.
use Rattle.std.proofs.Common.{◌↔◌, Any}
use Rattle.lvl_grid.specs.declared.point.Square.{Square}
use Rattle.lvl_grid.specs.Winding.{Covers}
use Rattle.lvl_path.specs.Figure.{Figure, rings, path, figure_rings, FigureCovers}
use Rattle.lvl_path.specs.Repeats.{without_repeats}
use Rattle.lvl_path.proofs.Covering.{rings_cover}

pub figure_drawn : (f : Figure) (s : Square) → Any (λ ring. Covers ring s) (figure_rings f) ↔ FigureCovers f s
figure_drawn (rings rs) s = (λ h. h, λ h. h)
figure_drawn (path ps w) s = rings_cover (without_repeats ps) w s
