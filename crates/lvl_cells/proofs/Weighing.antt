-- Sums over indexes of their times multiplied by weights.
use Rattle.std.proofs.Common.{◌≡◌, ◌≢◌, ℕ, zero, suc, ◌+◌, ◌*◌, ◌<◌, ◌≤◌, List, [], ◌∷◌, length, get_or, set, replicate}
use Rattle.std.proofs.Common.{sum_by, Some, refl, ap, ◌∙◌, arith}
use Rattle.std.specs.List.{slice_get}
use Rattle.std.proofs.lemmas.List.{get_or-set_same, get_or-set_other}
use Rattle.std.proofs.lemmas.List.Sums.{sum_by-cons}
use Rattle.lvl_cells.specs.inside.Times.{weighed}

-- no index occurs twice
abbrev pub Once : List ℕ → Type 0
Once ks = (i j k : ℕ) → slice_get ks i ≡ Some k → slice_get ks j ≡ Some k → i ≡ j

once_tail : (k : ℕ) (ks : List ℕ) → Once (k ∷ ks) → Once ks
once_tail k ks h i j q a b = let one : suc i ≡ suc j = h (suc i) (suc j) q a b in omega (arith, one)

-- the times of an index that isn't in the list don't count
set_absent : (f g : ℕ → ℕ) (times : List ℕ) (q x i : ℕ) (ks : List ℕ) → ((p : ℕ) → slice_get ks p ≡ Some q → ⊥)
    → weighed f g (set times q x) i ks ≡ weighed f g times i ks
set_absent f g times q x i [] h = refl
set_absent f g times q x zero (k ∷ ks) h =
    let other : k ≢ q = λ e. h 0 (ap Some e) in
    let same : get_or (set times q x) k 0 ≡ get_or times k 0 = get_or-set_other times q k x 0 other in
    let first : get_or (set times q x) k 0 * g k ≡ get_or times k 0 * g k = ap (λ n. n * g k) same in
    omega (arith, first, set_absent f g times q x zero ks (λ p e. h (suc p) e))
set_absent f g times q x (suc i) (k ∷ ks) h =
    let other : k ≢ q = λ e. h 0 (ap Some e) in
    let same : get_or (set times q x) k 0 ≡ get_or times k 0 = get_or-set_other times q k x 0 other in
    let first : get_or (set times q x) k 0 * f k ≡ get_or times k 0 * f k = ap (λ n. n * f k) same in
    omega (arith, first, set_absent f g times q x i ks (λ p e. h (suc p) e))

-- an index from the ith item on gets more times
pub set_later : (f g : ℕ → ℕ) (times : List ℕ) (q x i p : ℕ) (ks : List ℕ) → Once ks → slice_get ks p ≡ Some q → i ≤ p
    → q < length times
    → weighed f g (set times q (get_or times q 0 + x)) i ks ≡ weighed f g times i ks + x * g q
set_later f g times q x i p [] once at le low = cc
set_later f g times q x zero zero (k ∷ ks) once at le low =
    let new : List ℕ = set times q (get_or times q 0 + x) in
    let here : k ≡ q = cc in
    let now : get_or new q 0 ≡ get_or times q 0 + x = get_or-set_same times q (get_or times q 0 + x) 0 low in
    let first : get_or new k 0 * g k ≡ (get_or times q 0 + x) * g q =
    ap (λ n. get_or new n 0 * g n) here ∙ ap (λ n. n * g q) now in
    let old : get_or times k 0 * g k ≡ get_or times q 0 * g q = ap (λ n. get_or times n 0 * g n) here in
    let rest : weighed f g new zero ks ≡ weighed f g times zero ks =
    set_absent f g times q (get_or times q 0 + x) zero ks
    (λ r e. let one : zero ≡ suc r = once zero (suc r) q at e in absurd (omega (arith, one))) in
    omega (arith, first, old, rest)
set_later f g times q x zero (suc p) (k ∷ ks) once at le low =
    let new : List ℕ = set times q (get_or times q 0 + x) in
    let other : k ≢ q =
    λ e. let one : zero ≡ suc p = once zero (suc p) q (ap Some e) at in absurd (omega (arith, one)) in
    let same : get_or new k 0 ≡ get_or times k 0 = get_or-set_other times q k (get_or times q 0 + x) 0 other in
    let first : get_or new k 0 * g k ≡ get_or times k 0 * g k = ap (λ n. n * g k) same in
    omega (arith, first, set_later f g times q x zero p ks (once_tail k ks once) at (omega arith) low)
set_later f g times q x (suc i) zero (k ∷ ks) once at le low = absurd (omega (arith, le))
set_later f g times q x (suc i) (suc p) (k ∷ ks) once at le low =
    let new : List ℕ = set times q (get_or times q 0 + x) in
    let other : k ≢ q =
    λ e. let one : zero ≡ suc p = once zero (suc p) q (ap Some e) at in absurd (omega (arith, one)) in
    let same : get_or new k 0 ≡ get_or times k 0 = get_or-set_other times q k (get_or times q 0 + x) 0 other in
    let first : get_or new k 0 * f k ≡ get_or times k 0 * f k = ap (λ n. n * f k) same in
    omega (arith, first, set_later f g times q x i p ks (once_tail k ks once) at (omega (arith, le)) low)

-- one more item is weighed by f instead of g
pub weighed_more : (f g : ℕ → ℕ) (times : List ℕ) (i k : ℕ) (ks : List ℕ) → slice_get ks i ≡ Some k
    → weighed f g times i ks + get_or times k 0 * f k ≡ weighed f g times (suc i) ks + get_or times k 0 * g k
weighed_more f g times i k [] at = cc
weighed_more f g times zero k (q ∷ ks) at =
    let here : q ≡ k = cc in
    let by_f : get_or times q 0 * f q ≡ get_or times k 0 * f k = ap (λ n. get_or times n 0 * f n) here in
    let by_g : get_or times q 0 * g q ≡ get_or times k 0 * g k = ap (λ n. get_or times n 0 * g n) here in
    omega (arith, by_f, by_g)
weighed_more f g times (suc i) k (q ∷ ks) at = omega (arith, weighed_more f g times i k ks at)

-- all items are weighed by f
pub weighed_all : (f g : ℕ → ℕ) (times : List ℕ) (i : ℕ) (ks : List ℕ) → length ks ≤ i
    → weighed f g times i ks ≡ sum_by (λ k. get_or times k 0 * f k) ks
weighed_all f g times i [] le = refl
weighed_all f g times zero (k ∷ ks) le = absurd (omega (arith, le))
weighed_all f g times (suc i) (k ∷ ks) le =
    omega (arith, weighed_all f g times i ks (omega (arith, le)), sum_by-cons (λ n. get_or times n 0 * f n) k ks)

-- an item from the ith on is weighed by g
pub weighed_least : (f g : ℕ → ℕ) (times : List ℕ) (i p q : ℕ) (ks : List ℕ) → slice_get ks p ≡ Some q → i ≤ p
    → get_or times q 0 * g q ≤ weighed f g times i ks
weighed_least f g times i p q [] at le = cc
weighed_least f g times zero zero q (k ∷ ks) at le =
    let here : k ≡ q = cc in
    let same : get_or times k 0 * g k ≡ get_or times q 0 * g q = ap (λ n. get_or times n 0 * g n) here in
    omega (arith, same)
weighed_least f g times zero (suc p) q (k ∷ ks) at le =
    omega (arith, weighed_least f g times zero p q ks at (omega arith))
weighed_least f g times (suc i) zero q (k ∷ ks) at le = absurd (omega (arith, le))
weighed_least f g times (suc i) (suc p) q (k ∷ ks) at le =
    omega (arith, weighed_least f g times i p q ks at (omega (arith, le)))

zero_there : (n k : ℕ) → get_or {A = ℕ} (replicate n 0) k 0 ≡ 0
zero_there zero k = refl
zero_there (suc n) zero = refl
zero_there (suc n) (suc k) = zero_there n k

-- if all times are zero, the sum is
pub weighed_none : (f g : ℕ → ℕ) (n i : ℕ) (ks : List ℕ) → weighed f g (replicate n 0) i ks ≡ 0
weighed_none f g n i [] = refl
weighed_none f g n zero (k ∷ ks) =
    let first : get_or (replicate n 0) k 0 * g k ≡ 0 * g k = ap (λ t. t * g k) (zero_there n k) in
    omega (arith, first, weighed_none f g n zero ks)
weighed_none f g n (suc i) (k ∷ ks) =
    let first : get_or (replicate n 0) k 0 * f k ≡ 0 * f k = ap (λ t. t * f k) (zero_there n k) in
    omega (arith, first, weighed_none f g n i ks)
