-- The corners at one abscissa, and those of them that are in some rows (own rule).
use Rattle.std.specs.Prelude.{◌≡◌, ◌≢◌, Bool, true, List, ◌++◌, ℤ, pos, ◌+ℤ◌, ◌-ℤ◌, ◌<ℤ◌, ◌≤ℤ◌, ◌↔◌, IsTrue}
use Rattle.std.specs.Prelude.{Contains, Some}
use Rattle.std.specs.List.{AllPairs}
use Rattle.lvl_grid.specs.declared.point.Square.{Square}
use Rattle.lvl_corners.specs.declared.corner.Corner.{Corner}
use Rattle.lvl_corners.specs.declared.span.Span.{Span}
use Rattle.lvl_corners.specs.Corners.{change_at, ComesBefore, IsBounded}
use Rattle.lvl_corners.specs.Spans.{spanned, whole, left_part, right_part, AreCornersIn}

-- the span of one abscissa
abbrev pub only : ℤ → Span
only x = record { from = Some x; below = Some (x +ℤ pos 1) }

-- the list has the corners of the set of squares P at the abscissa that are at ordinates of the rows, from below
pub record AreCornersAt (P : Square → Type 0) (x : ℤ) (rows : Span) (corners : List Corner) : Type 0 where
  pub covered : Square → Bool
  pub is_covered : (s : Square) → IsTrue (covered s) ↔ P s
  pub bounded : IsBounded covered
  pub rising : AllPairs ComesBefore corners
  pub each : (k : Corner) → Contains corners k
      ↔ ((k.x ≡ x) × (spanned rows k.y ≡ true) × (k.change ≢ pos 0) × (k.change ≡ change_at covered k.x k.y))

-- the corners at an abscissa are found part by part: those below an ordinate are those of the squares below it, the
-- others those of the squares from one row before it on, and both lists, one after the other, are the corners of all
abbrev pub PartsAppend : Type 0
PartsAppend =
    (covered : Square → Bool) (x : ℤ) (rows : Span) (at : ℤ) (ks ls : List Corner) → spanned rows at ≡ true
    → AreCornersAt (λ s. (s.y <ℤ at) × IsTrue (covered s)) x (left_part rows at) ks
    → AreCornersAt (λ s. ((at -ℤ pos 1) ≤ℤ s.y) × IsTrue (covered s)) x (right_part rows at) ls
    → AreCornersAt (λ s. IsTrue (covered s)) x rows (ks ++ ls)

-- the corners at all ordinates are those at the abscissa
abbrev pub PartsAreAll : Type 0
PartsAreAll =
    (covered : Square → Bool) (x : ℤ) (ks : List Corner) → AreCornersAt (λ s. IsTrue (covered s)) x whole ks
    → AreCornersIn (λ s. IsTrue (covered s)) (only x) ks
