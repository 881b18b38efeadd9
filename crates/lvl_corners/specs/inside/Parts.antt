-- The marks of a part of a strip. These definitions serve only the proofs.
use Rattle.std.specs.Prelude.{◌≡◌, Bool, true, ◌&&◌, List, ℤ, int_lt, ◌↔◌, IsTrue}
use Rattle.lvl_grid.specs.declared.point.Square.{Square}
use Rattle.lvl_corners.specs.declared.mark.Mark.{Mark}
use Rattle.lvl_corners.specs.declared.span.Span.{Span}
use Rattle.lvl_corners.specs.Corners.{change_at, IsBounded}
use Rattle.lvl_corners.specs.Gathered.{near}
use Rattle.lvl_corners.specs.Spans.{spanned}
use Rattle.lvl_corners.specs.inside.Marks.{net}

-- the mark is right of x, left of the end, and at an ordinate of the rows
abbrev pub is_right : ℤ → ℤ → Span → Mark → Bool
is_right x end rows m = (int_lt x m.x && int_lt m.x end) && spanned rows m.y

-- at each point at x, or right of it and left of the end, the marks add up to the change of the set of squares P
pub record AreMarksNear (P : Square → Type 0) (x end : ℤ) (marks : List Mark) : Type 0 where
  pub covered : Square → Bool
  pub is_covered : (s : Square) → IsTrue (covered s) ↔ P s
  pub bounded : IsBounded covered
  pub changes : (u v : ℤ) → near x end u ≡ true → net u v marks ≡ change_at covered u v
