-- The corners that are gathered part by part, right of an abscissa (own rule).
use Rattle.std.specs.Prelude.{◌≡◌, Bool, true, ◌&&◌, ◌||◌, ℤ, pos, ◌+ℤ◌, ◌-ℤ◌, ◌<ℤ◌, ◌≤ℤ◌, int_lt, cond, ◌⊎◌, ◌↔◌}
use Rattle.std.specs.Prelude.{IsTrue}
use Rattle.std.specs.Ordering.{int_eq}
use Rattle.lvl_grid.specs.declared.point.Square.{Square}
use Rattle.lvl_corners.specs.declared.digest.LayerHash.{LayerHash}
use Rattle.lvl_corners.specs.declared.span.Span.{Span}
use Rattle.lvl_corners.specs.Corners.{change_at, IsBounded}
use Rattle.lvl_corners.specs.Spans.{spanned, left_part, right_part}
use Rattle.lvl_corners.specs.inside.Marks.{net}

-- the abscissa is x, or right of it and left of the end
abbrev pub near : ℤ → ℤ → ℤ → Bool
near x end z = int_eq z x || (int_lt x z && int_lt z end)

-- the second end is the first, or left of it and right of x
abbrev pub IsLowered : ℤ → ℤ → ℤ → Type 0
IsLowered x end stop = (stop ≤ℤ end) × ((x <ℤ stop) ⊎ (stop ≡ end))

-- right of x and left of an end, the hash has gathered what adds up to the changes of the set of squares P at the
-- ordinates of some rows, and nothing elsewhere
pub record AreGathered (P : Square → Type 0) (x end : ℤ) (rows : Span) (h : LayerHash) : Type 0 where
  pub covered : Square → Bool
  pub is_covered : (s : Square) → IsTrue (covered s) ↔ P s
  pub bounded : IsBounded covered
  pub changes : (u v : ℤ) → x <ℤ u → u <ℤ end
      → net u v h.right.items ≡ cond (spanned rows v) (change_at covered u v) (pos 0)

-- right of x and left of an end, the hash has gathered what it had, and the changes of the set of squares P at the
-- ordinates of some rows
pub record AreMoreGathered (P : Square → Type 0) (x end : ℤ) (rows : Span) (old new : LayerHash) : Type 0 where
  pub covered : Square → Bool
  pub is_covered : (s : Square) → IsTrue (covered s) ↔ P s
  pub bounded : IsBounded covered
  pub changes : (u v : ℤ) → x <ℤ u → u <ℤ end
      → net u v new.right.items ≡ net u v old.right.items +ℤ cond (spanned rows v) (change_at covered u v) (pos 0)

-- at the abscissas of a span, the hash has gathered the changes of a set of squares
pub record HasGathered (covered : Square → Bool) (span : Span) (h : LayerHash) : Type 0 where
  pub bounded : IsBounded covered
  pub changes : (u v : ℤ) → spanned span u ≡ true → net u v h.right.items ≡ change_at covered u v

-- corners are gathered part by part: those below an ordinate are those of the squares below it, the others those of the
-- squares from one row before it on, and right of x and left of the lower end both are those of all
abbrev pub GatheredAppend : Type 0
GatheredAppend =
    (covered : Square → Bool) (x end stop : ℤ) (rows : Span) (at : ℤ) (old new : LayerHash) → spanned rows at ≡ true
    → stop ≤ℤ end → AreGathered (λ s. (s.y <ℤ at) × IsTrue (covered s)) x end (left_part rows at) old
    → AreMoreGathered (λ s. ((at -ℤ pos 1) ≤ℤ s.y) × IsTrue (covered s)) x stop (right_part rows at) old new
    → AreGathered (λ s. IsTrue (covered s)) x stop rows new

-- left of a lower end, what was gathered is that of the squares left of it
abbrev pub GatheredLeft : Type 0
GatheredLeft =
    (covered : Square → Bool) (x end stop : ℤ) (rows : Span) (h : LayerHash) → stop ≤ℤ end
    → AreGathered (λ s. IsTrue (covered s)) x end rows h
    → AreGathered (λ s. (s.x <ℤ stop) × IsTrue (covered s)) x stop rows h
