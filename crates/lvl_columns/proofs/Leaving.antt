-- What is left of lists without the rings that both have.
use Rattle.std.proofs.Common.{◌⊎◌, inl, inr, List, [], ◌∷◌, ◌++◌}
use Rattle.lvl_grid.specs.declared.point.Point.{Point}
use Rattle.lvl_grid.specs.declared.point.Square.{Square}
use Rattle.lvl_grid.specs.Winding.{Covers, SomeCovers}
use Rattle.lvl_grid.proofs.Anyone.{Any-push, Any-nil}
use Rattle.lvl_columns.specs.Columns.{Agree, IsFirst, NotBefore, Outcome}
use Rattle.lvl_columns.specs.Left.{AreLeft, IsLeft}

-- of no rings, none are left
pub left_none : (others : List (List Point)) → IsLeft [] others []
left_none others = record { within = λ s a. a; all = λ s a. absurd (Any-nil (λ r. Covers r s) a) }

-- one more ring is left, or others cover what it covers
pub left_push : (rings others left more : List (List Point)) (ring : List Point) → IsLeft rings others left
    → ((s : Square) → SomeCovers more s → SomeCovers left s ⊎ Covers ring s)
    → ((s : Square) → (SomeCovers left s ⊎ Covers ring s) → SomeCovers more s ⊎ SomeCovers others s)
    → IsLeft (rings ++ ring ∷ []) others more
left_push rings others left more ring h within all = record {
  within = λ s a.
      (Any-push (λ r. Covers r s) rings ring).1
      (elim (within s a) [ inl b ↦ inl (h.within s b) | inr c ↦ inr c ]);
  all = λ s a. elim ((Any-push (λ r. Covers r s) rings ring).0 a) [
    | inl b ↦ elim (h.all s b) [ inl old ↦ all s (inl old) | inr other ↦ inr other ]
    | inr c ↦ all s (inr c)
  ];
}

-- lists of which the same is left at a square agree there
covers_too : (first second ours theirs : List (List Point)) (s : Square) → IsLeft first second ours
    → IsLeft second first theirs → (SomeCovers ours s → SomeCovers theirs s) → SomeCovers first s → SomeCovers second s
covers_too first second ours theirs s a b to covers =
    elim (a.all s covers) [ inl left ↦ b.within s (to left) | inr other ↦ other ]

-- before the least difference of what is left, lists agree
pub least_left : (first second ours theirs : List (List Point)) (found : Outcome) → AreLeft first second ours theirs
    → IsFirst (ours, theirs) found → (s : Square) → Agree (first, second) s ⊎ NotBefore s found
least_left first second ours theirs found h left s = elim (left.least s) [
  | inl same ↦ inl (
    covers_too first second ours theirs s h.our_left h.their_left same.0,
    covers_too second first theirs ours s h.their_left h.our_left same.1,
  )
  | inr n ↦ inr n
]
