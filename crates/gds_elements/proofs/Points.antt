-- Lemmas on points.
use Rattle.std.proofs.Common.{◌≡◌, ℕ, ◌+◌, ◌*◌, ◌/◌, ◌<◌, ◌≤◌, length, slice_index_or, arith, suc, zero, List, [], ◌∷◌}
use Rattle.std.proofs.Common.{◌++◌, take, drop, refl, ap, ◌∙◌, subst, append_assoc, add-one}
use Rattle.std.proofs.lemmas.List.{drop-drop}
use Rattle.lvl_grid.specs.declared.point.Point.{Point}
use Rattle.gds_elements.specs.Values.{point, points_of, points, nth}

-- one more point
pub points_more : (m n : ℕ) (ps : List Point) (xs : List ℕ) (all : List Point) → n ≡ m + 1 → ps ++ points_of n xs ≡ all
    → (ps ++ point (take 8 xs) ∷ []) ++ points_of m (drop 8 xs) ≡ all
points_more m n ps xs all e h =
    let s : n ≡ suc m = e ∙ add-one m in
    let k : ps ++ points_of (suc m) xs ≡ all = subst (λ i. ps ++ points_of i xs ≡ all) s h in
    append_assoc ps (point (take 8 xs) ∷ []) (points_of m (drop 8 xs)) ∙ k

length-points_of : (n : ℕ) (p : List ℕ) → length (points_of n p) ≡ n
length-points_of zero p = refl
length-points_of (suc n) p = ap suc (length-points_of n (drop 8 p))

-- a payload has a point for every eight bytes
pub length-points : (p : List ℕ) → length (points p) ≡ length p / 8
length-points p = length-points_of (length p / 8) p

drop_more : (k : ℕ) (p : List ℕ) → drop (8 * k) (drop 8 p) ≡ drop (8 * suc k) p
drop_more k p = drop-drop (8 * k) 8 p ∙ ap (λ n. drop n p) (let e : 8 + 8 * k ≡ 8 * suc k = omega arith in e)

nth-points_of : (n k : ℕ) (p : List ℕ) (d : Point) → k < n
    → slice_index_or (points_of n p) k d ≡ point (take 8 (drop (8 * k) p))
nth-points_of zero k p d h = absurd (omega arith)
nth-points_of (suc n) zero p d h = refl
nth-points_of (suc n) (suc k) p d h =
    nth-points_of n k (drop 8 p) d (omega arith) ∙ ap (λ q. point (take 8 q)) (drop_more k p)

-- the point at an index k comes after 8 k bytes
pub nth-points : (k : ℕ) (p : List ℕ) → 8 * k + 8 ≤ length p → nth (points p) k ≡ point (take 8 (drop (8 * k) p))
nth-points k p h = nth-points_of (length p / 8) k p _ (omega (arith, h))
