-- The steps of a list from each item to the next, and round from the last to the first.
use Rattle.std.proofs.Common.{◌≡◌, ℕ, zero, suc, ◌+◌, ◌-◌, ◌<◌, List, [], ◌∷◌, ◌++◌, drop, length, Option, Some, All}
use Rattle.std.proofs.Common.{◌∙◌, refl, sym, ap, subst, arith}
use Rattle.std.specs.List.{slice_get}
use Rattle.std.proofs.lemmas.List.{append-nil}
use Rattle.std.proofs.lemmas.List.Elements.{All-nil, All-cons, All-head, All-tail, All-append}
use Rattle.lvl_grid.specs.Winding.{last_or, path_edges, edges}

-- an option has at most one value
pub one_answer : {X : Type 0} {o : Option X} {x y : X} → o ≡ Some x → o ≡ Some y → x ≡ y
one_answer {X} {o} {x} {y} h g = let s : Some x ≡ Some y = sym h ∙ g in cc

-- below the length there is an item
pub item_there : {X : Type 0} (xs : List X) (k : ℕ) → k < length xs → (x : X) × (slice_get xs k ≡ Some x)
item_there [] k h = absurd (omega arith)
item_there (x ∷ xs) zero h = (x, refl)
item_there (x ∷ xs) (suc k) h = item_there xs k (omega arith)

pub slice_get-drop : {X : Type 0} (xs : List X) (p k : ℕ) → slice_get (drop p xs) k ≡ slice_get xs (p + k)
slice_get-drop xs zero k = let e : 0 + k ≡ k = omega arith in rw e refl
slice_get-drop [] (suc p) k = refl
slice_get-drop (x ∷ xs) (suc p) k = let e : suc p + k ≡ suc (p + k) = omega arith in rw e (slice_get-drop xs p k)

pub slice_get-front : {X : Type 0} (xs ys : List X) (k : ℕ) (x : X) → slice_get xs k ≡ Some x
    → slice_get (xs ++ ys) k ≡ Some x
slice_get-front [] ys k x h = cc
slice_get-front (z ∷ zs) ys zero x h = h
slice_get-front (z ∷ zs) ys (suc k) x h = slice_get-front zs ys k x h

-- if each step from d on is in R, all edges are
pub step_edges : {X : Type 0} (R : (X × X) → Type 0) (d : X) (xs : List X)
    → ((a : X) → slice_get xs 0 ≡ Some a → R (d, a))
    → ((k : ℕ) (a b : X) → slice_get xs k ≡ Some a → slice_get xs (suc k) ≡ Some b → R (a, b)) → All R (path_edges d xs)
step_edges R d [] first steps = All-nil R
step_edges R d (x ∷ xs) first steps =
    All-cons R (d, x) (path_edges x xs) (first x refl)
    (step_edges R x xs (λ a h. steps 0 x a refl h) (λ k a b ha hb. steps (suc k) a b ha hb))

pub last_is : {X : Type 0} (p : X) (ps : List X) → slice_get (p ∷ ps) (length (p ∷ ps) - 1) ≡ Some (last_or p ps)
last_is p [] = refl
last_is p (q ∷ qs) = let e : length (p ∷ q ∷ qs) - 1 ≡ suc (length (q ∷ qs) - 1) = omega arith in rw e (last_is q qs)

-- if each step is in R, and that from the last item to the first, all edges of the closed list are
pub round_edges : {X : Type 0} (R : (X × X) → Type 0) (xs : List X)
    → ((k : ℕ) (a b : X) → slice_get xs k ≡ Some a → slice_get xs (suc k) ≡ Some b → R (a, b))
    → ((a b : X) → slice_get xs 0 ≡ Some a → slice_get xs (length xs - 1) ≡ Some b → R (b, a)) → All R (edges xs)
round_edges R [] steps close = All-nil R
round_edges R (p ∷ ps) steps close =
    step_edges R (last_or p ps) (p ∷ ps) (λ a h. close a (last_or p ps) h (last_is p ps)) steps

path_edges-append : {X : Type 0} (d : X) (us vs : List X)
    → path_edges d (us ++ vs) ≡ path_edges d us ++ path_edges (last_or d us) vs
path_edges-append d [] vs = refl
path_edges-append d (u ∷ us) vs = ap (λ t. (d, u) ∷ t) (path_edges-append u us vs)

last_or-append : {X : Type 0} (d : X) (us vs : List X) → last_or d (us ++ vs) ≡ last_or (last_or d us) vs
last_or-append d [] vs = refl
last_or-append d (u ∷ us) vs = last_or-append u us vs

All-left : {X : Type 0} (P : X → Type 0) (xs ys : List X) → All P (xs ++ ys) → All P xs
All-left P [] ys h = All-nil P
All-left P (x ∷ xs) ys h = All-cons P x xs (All-head P x (xs ++ ys) h) (All-left P xs ys (All-tail P x (xs ++ ys) h))

All-right : {X : Type 0} (P : X → Type 0) (xs ys : List X) → All P (xs ++ ys) → All P ys
All-right P [] ys h = h
All-right P (x ∷ xs) ys h = All-right P xs ys (All-tail P x (xs ++ ys) h)

-- the edges of a closed list are the same at whatever item it begins
pub edges_round : {X : Type 0} (R : (X × X) → Type 0) (us vs : List X) → All R (edges (us ++ vs))
    → All R (edges (vs ++ us))
edges_round R [] vs h = subst (λ l. All R (edges l)) (sym (append-nil vs)) h
edges_round R (u ∷ us) [] h = subst (λ l. All R (edges l)) (append-nil (u ∷ us)) h
edges_round {X} R (u ∷ us) (v ∷ vs) h =
    let last_u : X = last_or u us in
    let last_v : X = last_or v vs in
    let from : last_or u (us ++ v ∷ vs) ≡ last_v = last_or-append u us (v ∷ vs) in
    let to : last_or v (vs ++ u ∷ us) ≡ last_u = last_or-append v vs (u ∷ us) in
    let split : All R (path_edges last_v (u ∷ us) ++ path_edges last_u (v ∷ vs)) =
    subst (λ l. All R l) (path_edges-append last_v (u ∷ us) (v ∷ vs))
    (subst (λ d. All R (path_edges d (u ∷ us ++ v ∷ vs))) from h) in
    let turned : All R (path_edges last_u (v ∷ vs) ++ path_edges last_v (u ∷ us)) =
    All-append R (path_edges last_u (v ∷ vs)) (path_edges last_v (u ∷ us))
    (All-right R (path_edges last_v (u ∷ us)) (path_edges last_u (v ∷ vs)) split)
    (All-left R (path_edges last_v (u ∷ us)) (path_edges last_u (v ∷ vs)) split) in
    subst (λ d. All R (path_edges d (v ∷ vs ++ u ∷ us))) (sym to)
    (subst (λ l. All R l) (sym (path_edges-append last_u (v ∷ vs) (u ∷ us))) turned)
