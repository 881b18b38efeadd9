-- The least difference in a window is that of two lists that cover what the whole lists do there.
use Rattle.std.proofs.Common.{IfNone, IfSome, None, Some}
use Rattle.lvl_grid.specs.declared.point.Square.{Square}
use Rattle.lvl_grid.specs.Squares.{IsBefore}
use Rattle.lvl_region.specs.declared.region.Side.{Side}
use Rattle.lvl_columns.specs.Columns.{Agree, Differ, IsFirstIn, Lists, Outcome}
use Rattle.lvl_columns.proofs.Halving.{first_differ, first_least, first_same, part_agrees, part_differs}

pub same_in : (P : Square → Type 0) (l : Lists) (found : Outcome) → IsFirstIn P l found
    → IfNone found ((s : Square) → P s → Agree l s)
same_in P l None h = λ s p. part_agrees P l h.part s h.is_part p (first_same h.part None h.first s)
same_in P l (Some at) h = tt

there : (P : Square → Type 0) (l : Lists) (at : Square × Side) → IsFirstIn P l (Some at) → P at.0 × Differ l at.0 at.1
there P l at h = part_differs P l h.part at.0 at.1 h.is_part (first_differ h.part (Some at) h.first)

pub differ_in : (P : Square → Type 0) (l : Lists) (found : Outcome) → IsFirstIn P l found
    → IfSome found (λ at. Differ l at.0 at.1)
differ_in P l None h = tt
differ_in P l (Some at) h = (there P l at h).1

pub shown_in : (P : Square → Type 0) (l : Lists) (found : Outcome) → IsFirstIn P l found → IfSome found (λ at. P at.0)
shown_in P l None h = tt
shown_in P l (Some at) h = (there P l at h).0

pub least_in : (P : Square → Type 0) (l : Lists) (found : Outcome) → IsFirstIn P l found
    → IfSome found (λ at. (s : Square) → P s → IsBefore s at.0 → Agree l s)
least_in P l None h = tt
least_in P l (Some at) h = λ s p b. part_agrees P l h.part s h.is_part p (first_least h.part (Some at) h.first s b)
