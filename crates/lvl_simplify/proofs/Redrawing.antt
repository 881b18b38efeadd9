-- Rings that are redrawn from their vertical edges.
use Rattle.std.proofs.Common.{◌≡◌, ◌<◌, ◌+◌, ◌-◌, ℕ, ℤ, pos, ◌-ℤ◌, ◌+ℤ◌, ◌<ℤ◌, ◌≤ℤ◌, Bool, true, false, ◌&&◌, not, cond}
use Rattle.std.proofs.Common.{List, [], ◌∷◌, ◌++◌, drop, length, get_or, ◌↔◌, sym, ap, ◌∙◌, refl, arith}
use Rattle.std.proofs.Common.{Result, Ok, Err, Option, ◌⊎◌, inl, inr}
use Rattle.std.specs.Option.{IfSome}
use Rattle.std.specs.Result.{IfOk, result_ok}
use Rattle.std.proofs.Common.{int_lt, int_le, count_by, All, subst, ◌≢◌}
use Rattle.std.specs.Ordering.{int_eq}
use Rattle.std.proofs.lemmas.Int.{ints, by_lt_z}
use Rattle.std.proofs.lemmas.List.Elements.{All-weaker}
use Rattle.std.proofs.lemmas.List.Sums.{sum_by_push}
use Rattle.lvl_grid.specs.declared.point.Point.{Point}
use Rattle.lvl_grid.specs.declared.point.Square.{Square}
use Rattle.lvl_grid.specs.Winding.{Edge, path_edges, goes_up, goes_down, winding, Covers}
use Rattle.lvl_grid.proofs.Paths.{path_at, edges_from_last}
use Rattle.lvl_grid.proofs.Sides.{winding_left}
use Rattle.lvl_grid.proofs.Turning.{count-cons, lt_is_not_le}
use Rattle.lvl_simplify.specs.declared.redraw.Upright.{Upright}
use Rattle.lvl_simplify.specs.declared.rows.Turn.{Turn}
use Rattle.lvl_simplify.specs.Rows.{turning, edge_turning}
use Rattle.lvl_simplify.specs.Redraw.{NotLeftOf, count_to, if_right, winds, winding_by}
use Rattle.lvl_simplify.proofs.Turns.{net, sides_turn}

right_of : (a b c : Bool)
    → pos (cond (a && (b && not c)) 1 0) -ℤ pos (cond (a && (c && not b)) 1 0)
    ≡ cond a (pos (cond b 1 0) -ℤ pos (cond c 1 0)) (pos 0)
right_of true b c = sides_turn b c
right_of false b c = refl

-- what an edge adds to the winding at a square
pub edge_winds : (s : Square) (p q : Point)
    → pos (cond (goes_up s (p, q)) 1 0) -ℤ pos (cond (goes_down s (p, q)) 1 0) ≡ winds s p.x p.y q.y
edge_winds s p q =
    rw (lt_is_not_le s.y q.y, lt_is_not_le s.y p.y)
    (right_of (int_lt s.x p.x) (int_le p.y s.y) (int_le q.y s.y))

level : (a b : Bool) → cond a (pos (cond b 1 0) -ℤ pos (cond b 1 0)) (pos 0) ≡ pos 0
level true true = refl
level true false = refl
level false b = refl

pub no_height : (s : Square) (x y : ℤ) → winds s x y y ≡ pos 0
no_height s x y = level (int_lt s.x x) (int_le y s.y)

-- an edge that isn't right of the square
pub not_right : (s : Square) (x from to : ℤ) → x ≤ℤ s.x → winds s x from to ≡ pos 0
not_right s x from to le =
    let out : int_lt s.x x ≡ false = grind (arith, ints) in
    rw out refl

none_added : (old more : ℤ) → more ≡ pos 0 → old ≡ old +ℤ more
none_added old more e = omega (arith, ints, e)

pub added_outside : (s : Square) (x from to old : ℤ) → x ≤ℤ s.x → old ≡ old +ℤ winds s x from to
added_outside s x from to old le = none_added old (winds s x from to) (not_right s x from to le)

-- an edge whose ordinates are equal adds nothing
pub added_none : (s : Square) (x from to old : ℤ) → from ≡ to → old ≡ old +ℤ winds s x from to
added_none s x from to old e = rw e (none_added old (winds s x to to) (no_height s x to))

pub more_first : (w all us u : ℤ) → all ≡ us +ℤ u → w +ℤ all ≡ (w +ℤ us) +ℤ u
more_first w all us u e = omega (arith, ints, e)

none_after : (z : ℤ) → z +ℤ pos 0 ≡ pos 0 +ℤ z
none_after z = omega (arith, ints)

-- one more edge
pub winding_pushed : (s : Square) (us : List Upright) (u : Upright)
    → winding_by s (us ++ u ∷ []) ≡ winding_by s us +ℤ winds s u.x u.from u.to
winding_pushed s [] u = none_after (winds s u.x u.from u.to)
winding_pushed s (v ∷ us) u =
    more_first (winds s v.x v.from v.to) (winding_by s (us ++ u ∷ [])) (winding_by s us) (winds s u.x u.from u.to)
    (winding_pushed s us u)

pub uprights_pushed : (s : Square) (old new : List Upright) (u : Upright) → new ≡ old ++ u ∷ []
    → winding_by s new ≡ winding_by s old +ℤ winds s u.x u.from u.to
uprights_pushed s old new u e = ap (winding_by s) e ∙ winding_pushed s old u

-- what is added to one of two parts
pub added_inside : (new old rest more : ℤ) → new ≡ old +ℤ more → new +ℤ rest ≡ (old +ℤ rest) +ℤ more
added_inside new old rest more e = omega (arith, ints, e)

pub added_beside : (new old inside rest more all : ℤ) → new ≡ old +ℤ more → old ≡ inside +ℤ rest → all ≡ rest +ℤ more
    → new ≡ inside +ℤ all
added_beside new old inside rest more all e f g = omega (arith, ints, e, f, g)

-- an edge at the border, by its turns
pub border_pushed : (s : Square) (right : ℤ) (p q : Point) (old new : ℤ) → p.x ≡ right
    → new ≡ old +ℤ edge_turning right s.y (p, q)
    → if_right s right new ≡ if_right s right old +ℤ winds s p.x p.y q.y
border_pushed s right p q old new at more =
    let t : int_eq p.x right ≡ true = grind (arith, ints) in
    rw at (numbers (int_lt s.x right) old new (pos (cond (int_le p.y s.y) 1 0) -ℤ pos (cond (int_le q.y s.y) 1 0))
    (rw t at more))
  where
    numbers : (a : Bool) (old new edge : ℤ) → new ≡ old +ℤ edge
        → cond a new (pos 0) ≡ cond a old (pos 0) +ℤ cond a edge (pos 0)
    numbers true old new edge e = e
    numbers false old new edge e = refl

-- both ends of one more edge
pub ends_pushed : (s : Square) (x : ℤ) (begins ends more others : List ℤ) (from to : ℤ) → more ≡ begins ++ from ∷ []
    → others ≡ ends ++ to ∷ []
    → if_right s x (pos (count_to s.y more) -ℤ pos (count_to s.y others))
    ≡ if_right s x (pos (count_to s.y begins) -ℤ pos (count_to s.y ends)) +ℤ winds s x from to
ends_pushed s x begins ends more others from to e f =
    numbers (int_lt s.x x) (count_to s.y begins) (count_to s.y ends) (count_to s.y more) (count_to s.y others)
    (cond (int_le from s.y) 1 0) (cond (int_le to s.y) 1 0)
    (rw e (sum_by_push (λ z. cond (int_le z s.y) 1 0) begins from))
    (rw f (sum_by_push (λ z. cond (int_le z s.y) 1 0) ends to))
  where
    numbers : (a : Bool) (b e b' e' c d : ℕ) → b' ≡ b + c → e' ≡ e + d
        → cond a (pos b' -ℤ pos e') (pos 0) ≡ cond a (pos b -ℤ pos e) (pos 0) +ℤ cond a (pos c -ℤ pos d) (pos 0)
    numbers true b e b' e' c d h g = omega (arith, ints, h, g)
    numbers false b e b' e' c d h g = omega (arith, ints)

none_right : (a : Bool) → cond a (pos 0 -ℤ pos 0) (pos 0) ≡ pos 0
none_right true = refl
none_right false = refl

none_before : (none total : ℤ) → none ≡ pos 0 → (pos 0 +ℤ none) +ℤ total ≡ total
none_before none total e = omega (arith, ints, e)

-- at first no edge is taken and all are still to come
pub edges_start : (s : Square) (right : ℤ) (us : List Upright) (ts : List Turn) (ring : List Point) (d : Point)
    → us ≡ [] → ts ≡ [] → 0 < length ring
    → (winding_by s us +ℤ if_right s right (turning s.y ts))
    +ℤ net s (path_edges (get_or ring (length ring - 1) d) ring)
    ≡ winding ring s
edges_start s right us ts ring d e f some =
    rw (e, f, edges_from_last ring d some)
    (none_before (if_right s right (pos 0 -ℤ pos 0)) (winding ring s) (none_right (int_lt s.x right)))

step_numbers : (old new edge total : ℤ) (u d u' d' b c : ℕ) → new ≡ old +ℤ edge → u ≡ b + u' → d ≡ c + d'
    → pos b -ℤ pos c ≡ edge → old +ℤ (pos u -ℤ pos d) ≡ total → new +ℤ (pos u' -ℤ pos d') ≡ total
step_numbers old new edge total u d u' d' b c e f g h i = omega (arith, ints, e, f, g, h, i)

-- the edges taken so far and those still to come have the winding of the ring
pub edges_step : (s : Square) (old new total : ℤ) (previous d : Point) (ring : List Point) (i : ℕ) → i < length ring
    → new ≡ old +ℤ winds s previous.x previous.y (get_or ring i d).y
    → old +ℤ net s (path_edges previous (drop i ring)) ≡ total
    → new +ℤ net s (path_edges (get_or ring i d) (drop (i + 1) ring)) ≡ total
edges_step s old new total previous d ring i lt more so_far =
    let e : Edge = (previous, get_or ring i d) in
    let rest : List Edge = path_edges (get_or ring i d) (drop (i + 1) ring) in
    step_numbers old new (winds s previous.x previous.y (get_or ring i d).y) total
    (count_by (goes_up s) (e ∷ rest)) (count_by (goes_down s) (e ∷ rest)) (count_by (goes_up s) rest)
    (count_by (goes_down s) rest) (cond (goes_up s e) 1 0) (cond (goes_down s e) 1 0) more
    (count-cons (goes_up s) e rest) (count-cons (goes_down s) e rest) (edge_winds s previous (get_or ring i d))
    (rw (path_at previous ring i d lt) at so_far)

-- two rings without points left of an abscissa cover the same squares if they do so from the abscissa on
pub same_covers : (left : ℤ) (ring other : List Point) (s : Square) → All (NotLeftOf left) ring
    → All (NotLeftOf left) other → (left ≤ℤ s.x → (winding other s ≢ pos 0) ↔ (winding ring s ≢ pos 0))
    → Covers ring s ↔ Covers other s
same_covers left ring other s a b h =
    by_lt_z s.x left
    (λ lt. (λ n. absurd (n (outside ring lt a)), λ n. absurd (n (outside other lt b))))
    (λ ge. ((h ge).1, (h ge).0))
  where
    outside : (points : List Point) → s.x <ℤ left → All (NotLeftOf left) points → winding points s ≡ pos 0
    outside points lt all =
        winding_left s points
        (All-weaker (NotLeftOf left) (λ q. int_lt s.x q.x ≡ true) (λ q le. grind (arith, ints)) points all)

-- what holds of the value of a result holds of the option made from it
pub some_of_ok : {A E : Type 0} (P : A → Type 0) (r : Result A E) (o : Option A) → o ≡ result_ok r → IfOk r P
    → IfSome o P
some_of_ok P (Ok x) o e h = subst (λ p. IfSome p P) (sym e) h
some_of_ok P (Err x) o e h = subst (λ p. IfSome p P) (sym e) tt

-- one more ring, or another that covers the same squares
pub same_pushed : {N O A B : Type 0} → (N ↔ (O ⊎ B)) → (A ↔ B) → N ↔ (O ⊎ A)
same_pushed pushed same = (
  λ n. elim (pushed.0 n) [ inl o ↦ inl o | inr b ↦ inr (same.1 b) ],
  λ k. elim k [ inl o ↦ pushed.1 (inl o) | inr a ↦ pushed.1 (inr (same.0 a)) ],
)
