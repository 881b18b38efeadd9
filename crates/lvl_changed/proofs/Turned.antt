-- Rings that are written from another of their points on.
use Rattle.std.proofs.Common.{◌≡◌, ◌≢◌, ◌↔◌, ◌+◌, ◌++◌, ◌∷◌, [], ℕ, ℤ, pos, List, drop, take, length}
use Rattle.std.proofs.Common.{sym, ap, ◌∙◌, subst, arith}
use Rattle.std.proofs.lemmas.List.{append-nil, append_assoc, length-drop, take-append-drop, take_all}
use Rattle.lvl_grid.specs.declared.point.Point.{Point}
use Rattle.lvl_grid.specs.declared.point.Square.{Square}
use Rattle.lvl_grid.specs.Tidy.{WindsAs}
use Rattle.lvl_grid.specs.Winding.{Covers, winding}
use Rattle.lvl_grid.proofs.Tidying.{turned_on, WindsAs-same, WindsAs-then}

-- the first points may come after the others
turned : (xs ys : List Point) → WindsAs (xs ++ ys) (ys ++ xs)
turned [] ys = subst (WindsAs ys) (sym (append-nil ys)) (WindsAs-same ys)
turned (x ∷ xs) ys =
    let one : WindsAs (x ∷ (xs ++ ys)) (xs ++ (ys ++ x ∷ [])) =
    subst (WindsAs (x ∷ (xs ++ ys))) (append_assoc xs ys (x ∷ [])) (turned_on x (xs ++ ys)) in
    let two : WindsAs (xs ++ (ys ++ x ∷ [])) (ys ++ x ∷ xs) =
    subst (WindsAs (xs ++ (ys ++ x ∷ []))) (append_assoc ys (x ∷ []) xs) (turned xs (ys ++ x ∷ [])) in
    WindsAs-then (x ∷ (xs ++ ys)) (xs ++ (ys ++ x ∷ [])) (ys ++ x ∷ xs) one two

-- a ring that begins where another has made a turn covers the same
pub turned_covers : (xs ys : List Point) (turn rest : ℕ) → turn + rest ≡ length ys → length xs ≡ length ys
    → take rest xs ≡ take rest (drop turn ys) → take turn (drop rest xs) ≡ take turn ys → (s : Square)
    → Covers xs s ↔ Covers ys s
turned_covers xs ys turn rest all same begins ends s =
    let end : drop rest xs ≡ take turn ys =
    sym (take_all turn (drop rest xs) (omega (arith, length-drop rest xs, all, same))) ∙ ends in
    let begin : take rest xs ≡ drop turn ys =
    begins ∙ take_all rest (drop turn ys) (omega (arith, length-drop turn ys, all)) in
    let is : xs ≡ drop turn ys ++ take turn ys =
    sym (take-append-drop rest xs)
    ∙ (ap (λ (ps : List Point). ps ++ drop rest xs) begin ∙ ap (λ (ps : List Point). drop turn ys ++ ps) end) in
    let winds : winding xs s ≡ winding ys s =
    ap (λ (ps : List Point). winding ps s) is
    ∙ ((turned (take turn ys) (drop turn ys)).winds s
    ∙ ap (λ (ps : List Point). winding ps s) (take-append-drop turn ys)) in (
      subst (λ (w : ℤ). w ≢ pos 0) winds,
      subst (λ (w : ℤ). w ≢ pos 0) (sym winds),
    )
