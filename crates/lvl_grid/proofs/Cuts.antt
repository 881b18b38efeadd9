-- Lists cut into pieces: the pieces joined, and lists cut into the same pieces.
use Rattle.std.proofs.Common.{◌≡◌, ◌≤◌, ◌+◌, ◌-◌, ℕ, List, [], ◌∷◌, ◌++◌, length, take, drop, sym, ap, ◌∙◌, subst}
use Rattle.std.proofs.Common.{refl, arith}
use Rattle.std.specs.Prelude.{flat_map}
use Rattle.std.proofs.lemmas.List.{take-append-drop, length-take-le, length-drop, drop_all, drop-drop}
use Rattle.lvl_grid.specs.declared.point.Point.{Point}
use Rattle.lvl_grid.specs.Pieces.{cut_from, Rising, AreRings}
use Rattle.lvl_grid.proofs.Pieces.{rising-first}

abbrev first : {A : Type 0} → List A → List (List A) → List A
first xs [] = xs
first xs (ys ∷ yss) = ys

abbrev rest : {A : Type 0} → List (List A) → List (List A)
rest [] = []
rest (ys ∷ yss) = yss

parts : {A : Type 0} (start end : ℕ) (xs : List A) → start ≤ end
    → drop start xs ≡ take (end - start) (drop start xs) ++ drop end xs
parts start end xs h =
    let there : start + (end - start) ≡ end = omega (arith, h) in
    sym (take-append-drop (end - start) (drop start xs))
    ∙ ap (λ ys. take (end - start) (drop start xs) ++ ys) (drop-drop (end - start) start xs
    ∙ ap (λ n. drop n xs) there)

pub same_cut : {A : Type 0} (start : ℕ) (ends others : List ℕ) (xs ys : List A) → Rising start ends (length xs)
    → Rising start others (length ys) → cut_from start ends xs ≡ cut_from start others ys
    → (ends ≡ others) × (drop start xs ≡ drop start ys)
same_cut start [] [] xs ys h g e =
    (refl, drop_all start xs (omega (arith, h)) ∙ sym (drop_all start ys (omega (arith, g))))
same_cut start [] (d ∷ ds) xs ys h g e = absurd (omega (arith, ap length e))
same_cut start (d ∷ ds) [] xs ys h g e = absurd (omega (arith, ap length e))
same_cut start (e ∷ es) (d ∷ ds) xs ys h g same =
    let piece : take (e - start) (drop start xs) ≡ take (d - start) (drop start ys) = ap (λ p. first [] p) same in
    let others : cut_from e es xs ≡ cut_from d ds ys = ap (λ p. rest p) same in
    let up = rising-first e es (length xs) h.1 in
    let up-2 = rising-first d ds (length ys) g.1 in
    let size = length-take-le (e - start) (drop start xs) (omega (arith, length-drop start xs, up, h.0)) in
    let size-2 = length-take-le (d - start) (drop start ys) (omega (arith, length-drop start ys, up-2, g.0)) in
    let at : d ≡ e = omega (arith, size, size-2, ap length piece, h.0, g.0) in
    let more = same_cut e es ds xs ys h.1 (subst (λ n. Rising n ds (length ys)) at g.1)
    (others ∙ ap (λ n. cut_from n ds ys) at) in (
      ap (λ n. n ∷ es) (sym at) ∙ ap (λ ns. d ∷ ns) more.0,
      parts start e xs h.0
          ∙ (ap (λ ps. ps ++ drop e xs) piece
          ∙ (ap (λ ps. take (d - start) (drop start ys) ++ ps) (more.1 ∙ ap (λ n. drop n ys) (sym at))
          ∙ sym (parts start d ys g.0))),
    )

-- equal lists of rings have equal ends and equal points
pub same_rings : (ends others : List ℕ) (points images : List Point) → AreRings ends points → AreRings others images
    → cut_from 0 ends points ≡ cut_from 0 others images → (ends ≡ others) × (points ≡ images)
same_rings ends others points images a b e = same_cut 0 ends others points images a.rising b.rising e

-- the pieces, joined
pub joined_cut : {A : Type 0} (start : ℕ) (ends : List ℕ) (xs : List A) → Rising start ends (length xs)
    → flat_map (λ (ys : List A). ys) (cut_from start ends xs) ≡ drop start xs
joined_cut start [] xs h = sym (drop_all start xs (omega (arith, h)))
joined_cut start (e ∷ es) xs h =
    ap (λ ys. take (e - start) (drop start xs) ++ ys) (joined_cut e es xs h.1) ∙ sym (parts start e xs h.0)
