-- A walk over cells along their references: marks, the path, and the finished cells. Cells are named by their index.
use Rattle.std.specs.Prelude.{◌≡◌, ℕ, suc, ◌+◌, ◌*◌, ◌-◌, ◌<◌, ◌≤◌, List, [], ◌∷◌, map, length, ◌↔◌, sum_by, All}
use Rattle.std.specs.Prelude.{Contains, slice_get, Option, Some, None}
use Rattle.std.specs.Option.{option_map_or}
use Rattle.std.specs.List.{IsDistinct}
use Rattle.std.specs.Bool.{nat_eq}
use Rattle.lvl_cells.specs.declared.walk.Visit.{Visit}
use Rattle.lvl_cells.specs.declared.walk.Move.{Move}
use Rattle.lvl_cells.specs.declared.walk.Move.TheVariants.{Into, Past, Out, Round}
use Rattle.lvl_cells.specs.declared.walk.Mark.{Mark}
use Rattle.lvl_cells.specs.declared.walk.Mark.TheVariants.{New, Open, Done}

-- reference j of cell a is to cell b
abbrev pub IsArc : List (List ℕ) → ℕ → ℕ → ℕ → Type 0
IsArc targets a j b = (ts : List ℕ) × (slice_get targets a ≡ Some ts) × (slice_get ts j ≡ Some b)

-- the state of a walk: open cells are those on the path, done cells those that are finished, and each finished one
-- comes after those that it refers to
pub record IsWalk (targets : List (List ℕ)) (marks : List Mark) (path : List Visit)
    (finished : List ℕ) : Type 0 where
  pub long : length marks ≡ length targets
  pub open_ones : (k : ℕ) → (slice_get marks k ≡ Some Open) ↔ Contains (map (λ v. v.cell) path) k
  pub done_ones : (k : ℕ) → (slice_get marks k ≡ Some Done) ↔ Contains finished k
  pub apart : IsDistinct nat_eq (map (λ v. v.cell) path)
  pub once : IsDistinct nat_eq finished
  pub arcs : (k : ℕ) (v w : Visit) → slice_get path k ≡ Some v → slice_get path (k + 1) ≡ Some w
      → IsArc targets v.cell v.done w.cell
  pub later : (k : ℕ) (v : Visit) (j b : ℕ) → slice_get path k ≡ Some v → j < v.done → IsArc targets v.cell j b
      → Contains finished b
  pub falls : (i k j b : ℕ) → slice_get finished i ≡ Some k → IsArc targets k j b
      → (l : ℕ) × (l < i) × (slice_get finished l ≡ Some b)

-- the number of new cells
abbrev pub new_count : List Mark → ℕ
new_count [] = 0
new_count (New ∷ ms) = suc (new_count ms)
new_count (Open ∷ ms) = new_count ms
new_count (Done ∷ ms) = new_count ms

-- the number of references that a visit has still to follow
abbrev pub left_at : List (List ℕ) → Option Visit → ℕ
left_at targets None = 0
left_at targets (Some v) = option_map_or (λ ts. length ts - v.done) (slice_get targets v.cell) 0

-- the measure of a walk: how often cells are still to be opened or closed, then the references that the last visit on
-- the path has still to follow
abbrev pub work_left : List (List ℕ) → List Mark → List Visit → ℕ
work_left targets marks path =
    (2 * new_count marks + length path) * (1 + sum_by (λ ts. length ts) targets)
    + left_at targets (slice_get path (length path - 1))

-- no cell becomes new again
abbrev pub NoneBecomesNew : List Mark → List Mark → Type 0
NoneBecomesNew old new = (k : ℕ) → slice_get new k ≡ Some New → slice_get old k ≡ Some New

-- the next reference of the last cell on the path is to the cell `start`, and `start` is on the path
abbrev pub LeadsBack : List (List ℕ) → List Visit → ℕ → Type 0
LeadsBack targets path start =
    (v : Visit) × (slice_get path (length path - 1) ≡ Some v) × IsArc targets v.cell v.done start
    × Contains (map (λ w. w.cell) path) start

-- every target is below n
abbrev pub EachTargetWithin : List (List ℕ) → ℕ → Type 0
EachTargetWithin targets n = All (λ ts. All (λ b. b < n) ts) targets

-- the move follows the next reference of the visit, to a cell with the mark of this move, or no reference is left
abbrev pub IsStepFrom : List (List ℕ) → List Mark → Visit → Move → Type 0
IsStepFrom targets marks v (Into b) = IsArc targets v.cell v.done b × (slice_get marks b ≡ Some New)
IsStepFrom targets marks v (Round b) = IsArc targets v.cell v.done b × (slice_get marks b ≡ Some Open)
IsStepFrom targets marks v (Past done) =
    (b : ℕ) × (done ≡ v.done + 1) × IsArc targets v.cell v.done b × (slice_get marks b ≡ Some Done)
IsStepFrom targets marks v Out = (ts : List ℕ) × (slice_get targets v.cell ≡ Some ts) × (length ts ≤ v.done)
