-- The comparison of two placements.
use Rattle.std.proofs.Common.{◌≡◌, ℕ, Bool, true, false, ◌&&◌, nat_eq, int_eq, refl, arith, ap, ◌∙◌, subst}
use Rattle.std.specs.Bool.{Decides}
use Rattle.std.proofs.lemmas.Int.{ints}
use Rattle.std.proofs.lemmas.Bool.{and_parts}
use Rattle.lvl_grid.proofs.Composing.{same_point}
use Rattle.lvl_grid.specs.declared.point.Point.{Point}
use Rattle.lvl_grid.specs.declared.map.Map.{Map}
use Rattle.lvl_grid.specs.declared.map.Turn.{Turn}
use Rattle.lvl_grid.specs.declared.map.Turn.TheVariants.{R0, R90, R180, R270}
use Rattle.lvl_grid.specs.contracts.map.TurnPartialEq.TheImpl.{eq-value as turn-eq}
use Rattle.lvl_grid.specs.contracts.map.MapPartialEq.TheImpl.{eq-value as map-eq}
use Rattle.lvl_changed.specs.contracts.placements.PlacementPartialEq.TheImpl.{eq-value}
use Rattle.lvl_changed.specs.declared.placements.Placement.{Placement}

turns : (t u : Turn) → turn-eq.it t u ≡ true → t ≡ u
turns R0 R0 h = refl
turns R90 R90 h = refl
turns R180 R180 h = refl
turns R270 R270 h = refl
turns _ _ h = cc

turn_itself : (t : Turn) → turn-eq.it t t ≡ true
turn_itself R0 = refl
turn_itself _ = refl

flips : (f g : Bool) (t u : Turn) (a b : Point)
    → (let m : Map = record { flip = f; turn = t; at = a } in
    let n : Map = record { flip = g; turn = u; at = b } in map-eq.it m n) ≡ true → f ≡ g
flips true true t u a b h = refl
flips true false t u a b h = cc
flips false true t u a b h = cc
flips false false t u a b h = refl

second : (f g : Bool) (t u : Turn) (a b : Point)
    → (let m : Map = record { flip = f; turn = t; at = a } in
    let n : Map = record { flip = g; turn = u; at = b } in map-eq.it m n) ≡ true
    → (turn-eq.it t u && (int_eq a.x b.x && int_eq a.y b.y)) ≡ true
second true true t u a b h = h
second true false t u a b h = cc
second false true t u a b h = cc
second false false t u a b h = h

pub maps : (m n : Map) → map-eq.it m n ≡ true → m ≡ n
maps m n h =
    let flip = flips m.flip n.flip m.turn n.turn m.at n.at h in
    let rest =
    and_parts (turn-eq.it m.turn n.turn) (int_eq m.at.x n.at.x && int_eq m.at.y n.at.y)
    (second m.flip n.flip m.turn n.turn m.at n.at h) in
    let turn = turns m.turn n.turn rest.0 in
    let both = and_parts (int_eq m.at.x n.at.x) (int_eq m.at.y n.at.y) rest.1 in
    let at : m.at ≡ n.at = same_point m.at n.at (grind (arith, ints, both.0)) (grind (arith, ints, both.1)) in
    let of : Bool → Turn → Point → Map = λ f t a. record { flip = f; turn = t; at = a } in
    ap (λ f. of f m.turn m.at) flip ∙ (ap (λ t. of n.flip t m.at) turn ∙ ap (of n.flip n.turn) at)

point_itself : (a : Point) → (int_eq a.x a.x && int_eq a.y a.y) ≡ true
point_itself a = grind (arith, ints)

map_itself : (f : Bool) (t : Turn) (a : Point)
    → (let m : Map = record { flip = f; turn = t; at = a } in map-eq.it m m) ≡ true
map_itself true t a = ap (λ b. b && (int_eq a.x a.x && int_eq a.y a.y)) (turn_itself t) ∙ point_itself a
map_itself false t a = ap (λ b. b && (int_eq a.x a.x && int_eq a.y a.y)) (turn_itself t) ∙ point_itself a

itself : (p : Placement) → eq-value.it p p ≡ true
itself p =
    let one : nat_eq p.cell p.cell ≡ true = grind arith in
    ap (λ b. b && map-eq.it p.map p.map) one ∙ map_itself p.map.flip p.map.turn p.map.at

same : (p q : Placement) → eq-value.it p q ≡ true → p ≡ q
same p q h =
    let both = and_parts (nat_eq p.cell q.cell) (map-eq.it p.map q.map) h in
    let cell : p.cell ≡ q.cell = grind (arith, both.0) in
    let of : ℕ → Map → Placement = λ k m. record { cell = k; map = m } in
    ap (λ k. of k p.map) cell ∙ ap (of q.cell) (maps p.map q.map both.1)

-- the comparison of two placements decides whether they are equal
pub placement_decides : (p q : Placement) → Decides (eq-value.it p q) (p ≡ q)
placement_decides p q = (same p q, λ e. subst (λ r. eq-value.it p r ≡ true) e (itself p))
