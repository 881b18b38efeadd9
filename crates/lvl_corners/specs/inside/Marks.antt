-- Marks, which are the corners of rectangles, and their sums. These definitions serve only the proofs.
use Rattle.std.specs.Prelude.{◌≡◌, Bool, true, false, ◌&&◌, not, List, [], ◌∷◌, ℕ, ℤ, pos, negsuc, ◌+ℤ◌, ◌-ℤ◌, ◌≤ℤ◌}
use Rattle.std.specs.Prelude.{◌↔◌, IsTrue}
use Rattle.std.specs.Prelude.{cond, count_by}
use Rattle.std.specs.List.{AllPairs}
use Rattle.std.specs.Ordering.{int_eq}
use Rattle.lvl_grid.specs.declared.point.Square.{Square}
use Rattle.lvl_sweep.specs.Slab.{Slab}
use Rattle.lvl_corners.specs.declared.mark.Mark.{Mark}
use Rattle.lvl_corners.specs.declared.span.Span.{Span}
use Rattle.lvl_corners.specs.Corners.{bit, change_at, IsBounded}
use Rattle.lvl_corners.specs.Spans.{spanned}

-- the mark is at the point
abbrev pub is_at : ℤ → ℤ → Mark → Bool
is_at x y m = int_eq m.y y && int_eq m.x x

-- the number of marks at the point with the change 1
abbrev pub pluses : ℤ → ℤ → List Mark → ℕ
pluses x y marks = count_by (λ m. is_at x y m && m.is_plus) marks

-- the number of marks at the point with the change -1
abbrev pub minuses : ℤ → ℤ → List Mark → ℕ
minuses x y marks = count_by (λ m. is_at x y m && not m.is_plus) marks

-- the sum of the changes of the marks at the point
abbrev pub net : ℤ → ℤ → List Mark → ℤ
net x y marks = pos (pluses x y marks) -ℤ pos (minuses x y marks)

-- the change of a mark: 1 or -1
abbrev pub change_of : Mark → ℤ
change_of m = cond m.is_plus (pos 1) (negsuc 0)

-- the order of marks: by abscissa, then by ordinate
abbrev pub IsNoLater : Mark → Mark → Type 0
IsNoLater m n = (m.x ≤ℤ n.x) × (m.x ≡ n.x → m.y ≤ℤ n.y)

abbrev pub AreInOrder : List Mark → Type 0
AreInOrder marks = AllPairs IsNoLater marks

-- z if the flag is set, else -z
abbrev pub signed : Bool → ℤ → ℤ
signed true z = z
signed false z = pos 0 -ℤ z

-- what an interval adds at abscissa x: 1 if it begins there, -1 if it ends there
abbrev pub interval_step : ℤ → ℤ × ℤ → ℤ
interval_step x i = bit (int_eq i.0 x) -ℤ bit (int_eq i.1 x)

-- what the intervals of a row add at abscissa x
abbrev pub row_step : ℤ → List (ℤ × ℤ) → ℤ
row_step x [] = pos 0
row_step x (i ∷ is) = row_step x is +ℤ interval_step x i

-- what a band adds to the change at a point: its intervals count in the row where it begins and, negated, in the one
-- where it ends
abbrev pub band_net : ℤ → ℤ → Slab → ℤ
band_net x y b = cond (int_eq b.from y) (row_step x b.value) (pos 0) -ℤ cond (int_eq b.to y) (row_step x b.value)
    (pos 0)

-- what all bands add to the change at a point
abbrev pub bands_net : ℤ → ℤ → List Slab → ℤ
bands_net x y [] = pos 0
bands_net x y (b ∷ bs) = band_net x y b +ℤ bands_net x y bs

-- at each point with an abscissa of the span, the marks add up to the change of the set of squares P, and elsewhere to
-- 0
pub record AreMarksOf (P : Square → Type 0) (span : Span) (marks : List Mark) : Type 0 where
  pub covered : Square → Bool
  pub is_covered : (s : Square) → IsTrue (covered s) ↔ P s
  pub bounded : IsBounded covered
  pub changes : (x y : ℤ) → net x y marks ≡ cond (spanned span x) (change_at covered x y) (pos 0)
