-- Lists of picks.
use Rattle.std.proofs.Common.{◌≡◌, ◌≤◌, ◌++◌, ◌+◌, ◌*◌, ℕ, zero, suc, List, [], ◌∷◌, length, get_or, drop, map, sum_by}
use Rattle.std.proofs.Common.{slice_get, Some, Any, Contains, ◌↔◌, inl, inr, refl, sym, ap, subst, ◌∙◌, arith, add_comm}
use Rattle.std.proofs.Math.Nat.{zero-mul, suc-mul}
use Rattle.std.proofs.lemmas.List.{drop_all}
use Rattle.std.proofs.lemmas.List.Sums.{sum_by-cons, sum_by-append}
use Rattle.lvl_grid.specs.declared.point.Point.{Point}
use Rattle.lvl_grid.proofs.Anyone.{some_contained, Any-nil, Any-head, Any-tail, Any-uncons, Any-left, Any-right}
use Rattle.lvl_grid.proofs.Anyone.{Any-sides, Any-map}
use Rattle.lvl_cells.specs.Cells.{PlainReference}
use Rattle.lvl_flat.specs.inside.Visits.{Pick, picks, picks_from}

drop_at : {X : Type 0} (xs : List X) (i : ℕ) (x : X) → slice_get xs i ≡ Some x → drop i xs ≡ x ∷ drop (i + 1) xs
drop_at [] i x at = cc
drop_at {X} (y ∷ ys) zero x at = let one : y ≡ x = cc in ap (λ (z : X). z ∷ ys) one
drop_at (y ∷ ys) (suc i) x at =
    let one : suc (i + 1) ≡ suc i + 1 = omega arith in drop_at ys i x at ∙ ap (λ n. x ∷ drop n (y ∷ ys)) one

-- the picks of all references
pub picks_from_start : (rs : List PlainReference) → picks_from rs 0 ≡ picks rs
picks_from_start [] = refl
picks_from_start (r ∷ rs) = refl

-- the pick at an index: either more of the reference come after it, or it is the last of the reference
pub pick_next : (rs : List PlainReference) (j place : ℕ) (r : PlainReference) (e : Point) → slice_get rs j ≡ Some r
    → slice_get r.shifts place ≡ Some e → picks_from (drop j rs) place ≡ (r, e) ∷ picks_from (drop j rs) (place + 1)
pick_next rs j place r e at shift =
    let pair : Point → Pick = λ d. (r, d) in
    ap (λ refs. picks_from refs place) (drop_at rs j r at)
    ∙ (ap (λ es. map pair es ++ picks (drop (j + 1) rs)) (drop_at r.shifts place e shift)
    ∙ ap (λ refs. (r, e) ∷ picks_from refs (place + 1)) (sym (drop_at rs j r at)))

pub pick_last : (rs : List PlainReference) (j place : ℕ) (r : PlainReference) → slice_get rs j ≡ Some r
    → length r.shifts ≤ place → picks_from (drop j rs) place ≡ picks_from (drop (j + 1) rs) 0
pick_last rs j place r at past =
    let pair : Point → Pick = λ d. (r, d) in
    ap (λ refs. picks_from refs place) (drop_at rs j r at)
    ∙ (ap (λ es. map pair es ++ picks (drop (j + 1) rs)) (drop_all place r.shifts past)
    ∙ sym (picks_from_start (drop (j + 1) rs)))

pub picks_past : (rs : List PlainReference) (j place : ℕ) → length rs ≤ j → picks_from (drop j rs) place ≡ []
picks_past rs j place past = ap (λ refs. picks_from refs place) (drop_all j rs past)

sum_alike : (f : PlainReference → ℕ) (r : PlainReference) (es : List Point)
    → sum_by (λ (p : Pick). f p.0) (map (λ e. (r, e)) es) ≡ length es * f r
sum_alike f r [] = sym (zero-mul (f r))
sum_alike f r (e ∷ es) =
    sum_by-cons (λ (p : Pick). f p.0) (r, e) (map (λ d. (r, d)) es)
    ∙ (ap (λ n. f r + n) (sum_alike f r es) ∙ (add_comm (f r) (length es * f r) ∙ sym (suc-mul (length es) (f r))))

-- a sum of weights over references is the sum over their picks
pub picks_sum : (f : PlainReference → ℕ) (rs : List PlainReference)
    → sum_by (λ r. length r.shifts * f r) rs ≡ sum_by (λ (p : Pick). f p.0) (picks rs)
picks_sum f [] = refl
picks_sum f (r ∷ rs) =
    sum_by-cons (λ (q : PlainReference). length q.shifts * f q) r rs
    ∙ (ap (λ n. length r.shifts * f r + n) (picks_sum f rs)
    ∙ (ap (λ n. n + sum_by (λ (p : Pick). f p.0) (picks rs)) (sym (sum_alike f r r.shifts))
    ∙ sym (sum_by-append (λ (p : Pick). f p.0) (map (λ e. (r, e)) r.shifts) (picks rs))))

-- something holds at some shift of some reference exactly if it holds of some pick
pub picks_any : (P : PlainReference → Point → Type 0) (rs : List PlainReference)
    → Any (λ r. Any (P r) r.shifts) rs ↔ Any (λ p. P p.0 p.1) (picks rs)
picks_any P [] = (
  λ a. absurd (Any-nil (λ (r : PlainReference). Any (P r) r.shifts) a),
  λ a. absurd (Any-nil (λ (p : Pick). P p.0 p.1) a),
)
picks_any P (r ∷ rs) =
    let Q : Pick → Type 0 = λ p. P p.0 p.1 in
    let R : PlainReference → Type 0 = λ q. Any (P q) q.shifts in
    let mine : List Pick = map (λ e. (r, e)) r.shifts in (
      λ a.
          elim (Any-uncons R r rs a) [
            | inl here ↦ Any-left Q mine (picks rs) ((Any-map Q (λ e. (r, e)) r.shifts).1 here)
            | inr later ↦ Any-right Q mine (picks rs) ((picks_any P rs).0 later)
          ],
      λ a.
          elim (Any-sides Q mine (picks rs) a) [
            | inl here ↦ Any-head R r rs ((Any-map Q (λ e. (r, e)) r.shifts).0 here)
            | inr later ↦ Any-tail R r rs ((picks_any P rs).1 later)
          ],
    )

any_drop : {X : Type 0} (P : X → Type 0) (k : ℕ) (xs : List X) → Any P (drop k xs) → Any P xs
any_drop P zero xs a = a
any_drop P (suc k) [] a = a
any_drop P (suc k) (x ∷ xs) a = Any-tail P x xs (any_drop P k xs a)

any_from : (Q : Pick → Type 0) (rs : List PlainReference) (k : ℕ) → Any Q (picks_from rs k) → Any Q (picks rs)
any_from Q [] k a = a
any_from Q (r ∷ rs) k a =
    let pair : Point → Pick = λ e. (r, e) in
    elim (Any-sides Q (map pair (drop k r.shifts)) (picks rs) a) [
      | inl here ↦
          Any-left Q (map pair r.shifts) (picks rs) ((Any-map Q pair r.shifts).1 (any_drop (λ e. Q (pair e)) k r.shifts
          ((Any-map Q pair (drop k r.shifts)).0 here)))
      | inr later ↦ Any-right Q (map pair r.shifts) (picks rs) later
    ]

any_skip : (Q : Pick → Type 0) (j : ℕ) (rs : List PlainReference) → Any Q (picks (drop j rs)) → Any Q (picks rs)
any_skip Q zero rs a = a
any_skip Q (suc j) [] a = a
any_skip Q (suc j) (r ∷ rs) a = Any-right Q (map (λ e. (r, e)) r.shifts) (picks rs) (any_skip Q j rs a)

-- the picks that are still to be followed are picks of the cell
pub picks_within : (rs : List PlainReference) (j place : ℕ) (p : Pick) → Contains (picks_from (drop j rs) place) p
    → Contains (picks rs) p
picks_within rs j place p has =
    let same : Pick → Type 0 = λ x. x ≡ p in
    let a =
    any_skip same j rs
    (any_from same (drop j rs) place (some_contained same (picks_from (drop j rs) place) p has refl)) in
    (a.0, a.2, subst (λ (y : Pick). get_or (picks rs) a.0 y ≡ y) a.4 a.3)
