-- Sums of marks, one point after another. These definitions serve only the proofs.
use Rattle.std.specs.Prelude.{◌≡◌, ◌≢◌, ◌≤◌, ◌<◌, ◌⊎◌, ℕ, ◌&&◌, List, [], ◌∷◌, ℤ, pos, ◌+ℤ◌, ◌-ℤ◌}
use Rattle.std.specs.Prelude.{◌<ℤ◌, ◌≤ℤ◌, cond, All, take, length, slice_index_or}
use Rattle.std.specs.List.{AllPairs}
use Rattle.std.specs.Ordering.{int_eq}
use Rattle.lvl_corners.specs.declared.corner.Corner.{Corner}
use Rattle.lvl_corners.specs.declared.mark.Mark.{Mark}
use Rattle.lvl_corners.specs.declared.sum.Sum.{Sum}
use Rattle.lvl_corners.specs.Corners.{ComesBefore}
use Rattle.lvl_corners.specs.inside.Marks.{net, change_of}

-- the sum of one mark
abbrev pub started : Mark → Sum
started m = record { x = m.x; y = m.y; change = change_of m }

-- the sum with one more mark
abbrev pub added : Sum → Mark → Sum
added s m = record { x = s.x; y = s.y; change = s.change +ℤ change_of m }

-- the mark is at the point of the sum
abbrev pub IsAt : Sum → Mark → Type 0
IsAt s m = (s.x ≡ m.x) × (s.y ≡ m.y)

-- the corner of a sum, if the sum isn't 0
abbrev pub corners_of_sum : Sum → List Corner
corners_of_sum s = cond (int_eq s.change (pos 0)) [] (record { x = s.x; y = s.y; change = s.change } ∷ [])

-- the next mark is added to the sum at its point, or, at another point, the corner is sent and a new sum begins
abbrev pub Steps : Sum → Mark → Sum → List Corner → Type 0
Steps s m t sent = (IsAt s m × ((sent ≡ []) × (t ≡ added s m)))
    ⊎ ((¬ IsAt s m) × ((sent ≡ corners_of_sum s) × (t ≡ started m)))

-- the sum of the changes of the corners at a point
abbrev pub total_at : ℤ → ℤ → List Corner → ℤ
total_at x y [] = pos 0
total_at x y (k ∷ ks) = cond (int_eq k.y y && int_eq k.x x) k.change (pos 0) +ℤ total_at x y ks

-- the first point is left of the second, or at the same abscissa and below it
abbrev pub IsLess : ℤ → ℤ → ℤ → ℤ → Type 0
IsLess x y x' y' = (x <ℤ x') ⊎ ((x ≡ x') × (y <ℤ y'))

-- the state of the summing: the corners that were sent and the present sum add up to the first i marks
pub record AreSummed (marks : List Mark) (i : ℕ) (sent : List Corner) (s : Sum) : Type 0 where
  pub rising : AllPairs ComesBefore sent
  pub nonzero : All (λ k. k.change ≢ pos 0) sent
  pub earlier : All (λ k. IsLess k.x k.y s.x s.y) sent
  pub totals : (x y : ℤ)
      → total_at x y sent +ℤ cond (int_eq s.y y && int_eq s.x x) s.change (pos 0) ≡ net x y (take i marks)
  pub later : (j : ℕ) (d : Mark) → i ≤ j → j < length marks
      → (s.x ≤ℤ (slice_index_or marks j d).x) × (s.x ≡ (slice_index_or marks j d).x
      → s.y ≤ℤ (slice_index_or marks j d).y)
  pub low : (pos 0 -ℤ pos i) ≤ℤ s.change
  pub high : s.change ≤ℤ pos i

-- the corners that were sent are those of all marks
pub record AreTotals (marks : List Mark) (sent : List Corner) : Type 0 where
  pub rising : AllPairs ComesBefore sent
  pub nonzero : All (λ k. k.change ≢ pos 0) sent
  pub totals : (x y : ℤ) → total_at x y sent ≡ net x y marks
