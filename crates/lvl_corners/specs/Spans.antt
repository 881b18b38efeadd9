-- Spans, and the corners at the abscissas of a span (own rule).
use Rattle.std.specs.Prelude.{◌≡◌, ◌≢◌, Bool, true, ◌&&◌, List, ◌++◌, ℤ, pos, ◌-ℤ◌, ◌<ℤ◌, ◌≤ℤ◌, int_lt, ◌↔◌, IsTrue}
use Rattle.std.specs.Prelude.{Contains, Option, None, Some}
use Rattle.std.specs.List.{AllPairs}
use Rattle.lvl_grid.specs.declared.point.Square.{Square}
use Rattle.lvl_sweep.specs.Ahead.{is_from}
use Rattle.lvl_corners.specs.declared.corner.Corner.{Corner}
use Rattle.lvl_corners.specs.declared.span.Span.{Span}
use Rattle.lvl_corners.specs.Corners.{change_at, ComesBefore, IsBounded}

-- z is below the end, if there is one
abbrev pub is_below : Option ℤ → ℤ → Bool
is_below None z = true
is_below (Some b) z = int_lt z b

-- the span has the abscissa
abbrev pub spanned : Span → ℤ → Bool
spanned span x = is_from span.from x && is_below span.below x

-- the span of all abscissas
abbrev pub whole : Span
whole = record { from = None; below = None }

-- the abscissas of a span that are below `at`, which is one of them
abbrev pub left_part : Span → ℤ → Span
left_part span at = record { from = span.from; below = Some at }

-- the abscissas of a span from `at` on, which is one of them
abbrev pub right_part : Span → ℤ → Span
right_part span at = record { from = Some at; below = span.below }

-- the list has the corners of the set of squares P that are at abscissas of the span, in order
pub record AreCornersIn (P : Square → Type 0) (span : Span) (corners : List Corner) : Type 0 where
  pub covered : Square → Bool
  pub is_covered : (s : Square) → IsTrue (covered s) ↔ P s
  pub bounded : IsBounded covered
  pub rising : AllPairs ComesBefore corners
  pub each : (k : Corner) → Contains corners k
      ↔ ((spanned span k.x ≡ true) × (k.change ≢ pos 0) × (k.change ≡ change_at covered k.x k.y))

-- corners are found strip by strip: those left of an abscissa are those of the squares left of it, the others those of
-- the squares from one column before it on, and both lists, one after the other, are the corners of all
abbrev pub StripsAppend : Type 0
StripsAppend =
    (covered : Square → Bool) (span : Span) (at : ℤ) (ks ls : List Corner) → spanned span at ≡ true
    → AreCornersIn (λ s. (s.x <ℤ at) × IsTrue (covered s)) (left_part span at) ks
    → AreCornersIn (λ s. ((at -ℤ pos 1) ≤ℤ s.x) × IsTrue (covered s)) (right_part span at) ls
    → AreCornersIn (λ s. IsTrue (covered s)) span (ks ++ ls)
