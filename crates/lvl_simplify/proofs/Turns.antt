-- Turns of a ring, and the rows that it covers.
use Rattle.std.proofs.Common.{◌≡◌, ◌≢◌, ◌<◌, ◌+◌, ◌-◌, ℕ, ℤ, pos, negsuc, ◌-ℤ◌, ◌+ℤ◌, ◌<ℤ◌, ◌≤ℤ◌, Bool}
use Rattle.std.proofs.Common.{true, false, ◌&&◌, not}
use Rattle.std.proofs.Common.{cond, List, [], ◌∷◌, ◌++◌, drop, length, get_or, ◌⊎◌, ◌↔◌, inl, inr, sym, ◌∙◌, refl}
use Rattle.std.proofs.Common.{arith, int_lt, int_le, count_by, IsPermutation, All}
use Rattle.std.specs.Ordering.{int_eq}
use Rattle.std.proofs.lemmas.Int.{ints, by_lt_z}
use Rattle.std.proofs.lemmas.List.Elements.{All-weaker}
use Rattle.std.proofs.lemmas.List.Sums.{sum_by_push}
use Rattle.std.proofs.lemmas.List.Sorted.{sum_by-IsPermutation}
use Rattle.lvl_grid.specs.declared.point.Point.{Point}
use Rattle.lvl_grid.specs.declared.point.Square.{Square}
use Rattle.lvl_grid.specs.declared.point.Window.{Window}
use Rattle.lvl_grid.specs.Clip.{IsInWindow}
use Rattle.lvl_grid.specs.Winding.{Edge, path_edges, goes_up, goes_down, winding, Covers}
use Rattle.lvl_grid.proofs.Paths.{path_at, edges_from_last}
use Rattle.lvl_grid.proofs.Sides.{winding_left}
use Rattle.lvl_grid.proofs.Clipping.{winding_right}
use Rattle.lvl_grid.proofs.Turning.{count-cons, lt_is_not_le}
use Rattle.lvl_simplify.specs.declared.rows.Turn.{Turn}
use Rattle.lvl_simplify.specs.Rows.{IsBetween, IsAtBorder, change, adds, takes, turning, edge_turning}
use Rattle.lvl_simplify.specs.Spanning.{IsWithinSome}
use Rattle.lvl_simplify.proofs.Joining.{any_pushed}

abbrev pub no_turn : Turn
no_turn = record { y = pos 0; more = false }

turn_added : (m b : Bool) (a c a' c' : ℕ) → a' ≡ a + cond (m && b) 1 0 → c' ≡ c + cond (not m && b) 1 0
    → pos a' -ℤ pos c' ≡ (pos a -ℤ pos c) +ℤ cond b (cond m (pos 1) (negsuc 0)) (pos 0)
turn_added true true a c a' c' e f = omega (arith, ints, e, f)
turn_added true false a c a' c' e f = omega (arith, ints, e, f)
turn_added false true a c a' c' e f = omega (arith, ints, e, f)
turn_added false false a c a' c' e f = omega (arith, ints, e, f)

-- one more turn
pub turning_pushed : (y : ℤ) (old new : List Turn) (t : Turn) → new ≡ old ++ t ∷ []
    → turning y new ≡ turning y old +ℤ cond (int_le t.y y) (change t) (pos 0)
turning_pushed y old new t e =
    turn_added t.more (int_le t.y y) (count_by (adds y) old) (count_by (takes y) old) (count_by (adds y) new)
    (count_by (takes y) new) (rw e (sum_by_push (λ u. cond (adds y u) 1 0) old t))
    (rw e (sum_by_push (λ u. cond (takes y u) 1 0) old t))

-- the order of the turns doesn't matter
pub turning_permuted : (y : ℤ) (xs ys : List Turn) → IsPermutation xs ys → turning y ys ≡ turning y xs
turning_permuted y xs ys moved =
    rw (
      sum_by-IsPermutation (λ u. cond (adds y u) 1 0) xs ys moved,
      sum_by-IsPermutation (λ u. cond (takes y u) 1 0) xs ys moved,
    )
    refl

-- both turns of an edge at the right border
pub edge_pushed : (right y : ℤ) (old one two : List Turn) (from to : Point) → from.x ≡ right
    → one ≡ old ++ record { y = from.y; more = true } ∷ [] → two ≡ one ++ record { y = to.y; more = false } ∷ []
    → turning y two ≡ turning y old +ℤ edge_turning right y (from, to)
edge_pushed right y old one two from to at e f =
    let t : int_eq from.x right ≡ true = grind (arith, ints) in
    let a = turning_pushed y old one (record { y = from.y; more = true }) e in
    let b = turning_pushed y one two (record { y = to.y; more = false }) f in
    rw t (numbers (int_le from.y y) (int_le to.y y) (turning y old) (turning y one) (turning y two) a b)
  where
    numbers : (b c : Bool) (old one two : ℤ) → one ≡ old +ℤ cond b (pos 1) (pos 0)
        → two ≡ one +ℤ cond c (negsuc 0) (pos 0)
        → two ≡ old +ℤ (pos (cond b 1 0) -ℤ pos (cond c 1 0))
    numbers true true old one two e f = omega (arith, ints, e, f)
    numbers true false old one two e f = omega (arith, ints, e, f)
    numbers false true old one two e f = omega (arith, ints, e, f)
    numbers false false old one two e f = omega (arith, ints, e, f)

pub sides_turn : (b c : Bool)
    → pos (cond (b && not c) 1 0) -ℤ pos (cond (c && not b) 1 0) ≡ pos (cond b 1 0) -ℤ pos (cond c 1 0)
sides_turn true true = refl
sides_turn true false = refl
sides_turn false true = refl
sides_turn false false = refl

-- an edge that starts at a border adds to the winding at a square between the borders what its turns say
edge_winds : (left right : ℤ) (s : Square) (p q : Point) → IsAtBorder left right p → IsBetween left right s
    → pos (cond (goes_up s (p, q)) 1 0) -ℤ pos (cond (goes_down s (p, q)) 1 0) ≡ edge_turning right s.y (p, q)
edge_winds left right s p q (inl at_left) between =
    let from : left ≤ℤ s.x = between.0 in
    let below : s.x <ℤ right = between.1 in
    let a : int_lt s.x p.x ≡ false = grind (arith, ints) in
    let b : int_eq p.x right ≡ false = grind (arith, ints) in
    rw (a, b) refl
edge_winds left right s p q (inr at_right) between =
    let below : s.x <ℤ right = between.1 in
    let a : int_lt s.x p.x ≡ true = grind (arith, ints) in
    let b : int_eq p.x right ≡ true = grind (arith, ints) in
    rw (a, b, lt_is_not_le s.y q.y, lt_is_not_le s.y p.y) (sides_turn (int_le p.y s.y) (int_le q.y s.y))

-- what edges add to the winding at a square
abbrev pub net : Square → List Edge → ℤ
net s es = pos (count_by (goes_up s) es) -ℤ pos (count_by (goes_down s) es)

step_numbers : (old new edge total : ℤ) (u d u' d' b c : ℕ) → new ≡ old +ℤ edge → u ≡ b + u' → d ≡ c + d'
    → pos b -ℤ pos c ≡ edge → old +ℤ (pos u -ℤ pos d) ≡ total → new +ℤ (pos u' -ℤ pos d') ≡ total
step_numbers old new edge total u d u' d' b c e f g h i = omega (arith, ints, e, f, g, h, i)

-- the turns of the edges so far and the edges still to come have the winding of the ring
pub turns_step : (left right : ℤ) (s : Square) (old new : List Turn) (previous d : Point) (ring : List Point) (i : ℕ)
    (total : ℤ) → i < length ring → IsAtBorder left right previous → IsBetween left right s
    → turning s.y new ≡ turning s.y old +ℤ edge_turning right s.y (previous, get_or ring i d)
    → turning s.y old +ℤ net s (path_edges previous (drop i ring)) ≡ total
    → turning s.y new +ℤ net s (path_edges (get_or ring i d) (drop (i + 1) ring)) ≡ total
turns_step left right s old new previous d ring i total lt at between more so_far =
    let e : Edge = (previous, get_or ring i d) in
    let rest : List Edge = path_edges (get_or ring i d) (drop (i + 1) ring) in
    step_numbers (turning s.y old) (turning s.y new) (edge_turning right s.y e) total
    (count_by (goes_up s) (e ∷ rest)) (count_by (goes_down s) (e ∷ rest)) (count_by (goes_up s) rest)
    (count_by (goes_down s) rest) (cond (goes_up s e) 1 0) (cond (goes_down s e) 1 0) more
    (count-cons (goes_up s) e rest) (count-cons (goes_down s) e rest)
    (edge_winds left right s previous (get_or ring i d) at between) (rw (path_at previous ring i d lt) at so_far)

zero_more : (z : ℤ) → (pos 0 -ℤ pos 0) +ℤ z ≡ z
zero_more z = omega (arith, ints)

-- at first all edges are still to come
pub turns_start : (s : Square) (turns : List Turn) (ring : List Point) (d : Point) → turns ≡ [] → 0 < length ring
    → turning s.y turns +ℤ net s (path_edges (get_or ring (length ring - 1) d) ring) ≡ winding ring s
turns_start s turns ring d none some = rw (none, edges_from_last ring d some) (zero_more (winding ring s))

-- one more window of rows, or none if the winding there is 0
pub row_pushed : (left right low high : ℤ) (old new : List Window) (s : Square)
    → new ≡ old ++ record { x0 = left; y0 = low; x1 = right; y1 = high } ∷ []
    → IsWithinSome new s ↔ (IsWithinSome old s ⊎ (IsBetween left right s × (low ≤ℤ s.y) × (s.y <ℤ high)))
row_pushed left right low high old new s e =
    let row : Window = record { x0 = left; y0 = low; x1 = right; y1 = high } in
    let pushed = any_pushed (λ window. IsInWindow window s) old new row e in (
      λ n. elim (pushed.0 n) [
        | inl o ↦ inl o
        | inr w ↦ inr ((w.x_from, w.x_below), w.y_from, w.y_below)
      ],
      λ k. elim k [
        | inl o ↦ pushed.1 (inl o)
        | inr h ↦ pushed.1 (inr (record { x_from = h.0.0; x_below = h.0.1; y_from = h.1; y_below = h.2 }))
      ],
    )

-- what is known of the rows below one turn, and then of those below the next
pub rows_step : {B N O : Type 0} (y low high before after windings change : ℤ)
    → after ≡ before +ℤ cond (int_le high y) change (pos 0) → low ≤ℤ high → (low ≤ℤ y → before ≡ windings)
    → (N ↔ (O ⊎ ((windings ≢ pos 0) × (B × (low ≤ℤ y) × (y <ℤ high)))))
    → (O ↔ (B × (y <ℤ low) × (before ≢ pos 0)))
    → N ↔ (B × (y <ℤ high) × (after ≢ pos 0))
rows_step y low high before after windings change more rise above pushed below =
    let same : y <ℤ high → after ≡ before = λ lt.
    let none : int_le high y ≡ false = grind (arith, ints) in
    omega (arith, ints, rw none at more) in (
      λ n. elim (pushed.0 n) [
        | inl o ↦
            let h = below.0 o in
            let lt : y <ℤ high = omega (arith, ints, rise, h.1) in
            (h.0, lt, λ z. h.2 (sym (same lt) ∙ z))
        | inr k ↦
            let h = k.1 in
            (h.0, h.2, λ z. k.0 (sym (above h.1) ∙ sym (same h.2) ∙ z))
      ],
      λ h. by_lt_z y low (λ lt. pushed.1 (inl (below.1 (h.0, lt, λ z. h.2 (same h.1 ∙ z)))))
          (λ ge. pushed.1 (inr (λ z. h.2 (same h.1 ∙ above ge ∙ z), (h.0, ge, h.1)))),
    )

-- the winding above the turn
pub above_step : (y high before after windings change counted : ℤ)
    → after ≡ before +ℤ cond (int_le high y) change (pos 0) → high ≤ℤ y → before ≡ windings
    → counted ≡ windings +ℤ change → after ≡ counted
above_step y high before after windings change counted more le so_far next =
    let all : int_le high y ≡ true = grind (arith, ints) in
    omega (arith, ints, rw all at more, so_far, next)

-- a ring whose points are at two abscissas covers only squares between them
only_between : (left right : ℤ) (ring : List Point) (s : Square) → left ≤ℤ right → All (IsAtBorder left right) ring
    → Covers ring s → IsBetween left right s
only_between left right ring s wide at covered =
    by_lt_z s.x left
    (λ lt. absurd (covered (winding_left s ring
    (All-weaker (IsAtBorder left right) (λ q. int_lt s.x q.x ≡ true) (λ q h. elim h [
      | inl e ↦ grind (arith, ints)
      | inr e ↦ grind (arith, ints)
    ]) ring at))))
    (λ from. by_lt_z s.x right (λ below. (from, below))
    (λ beyond. absurd (covered (winding_right s ring
    (All-weaker (IsAtBorder left right) (λ q. int_lt s.x q.x ≡ false) (λ q h. elim h [
      | inl e ↦ grind (arith, ints)
      | inr e ↦ grind (arith, ints)
    ]) ring at)))))

-- it covers exactly the squares of its rows
pub covers_rows : (left right : ℤ) (ring : List Point) (s : Square) (turns sorted : List Turn) (rows : List Window)
    → left ≤ℤ right → All (IsAtBorder left right) ring
    → (IsBetween left right s → winding ring s ≡ turning s.y turns) → IsPermutation turns sorted
    → (IsWithinSome rows s ↔ (IsBetween left right s × (turning s.y sorted ≢ pos 0)))
    → Covers ring s ↔ IsWithinSome rows s
covers_rows left right ring s turns sorted rows wide at winds moved within =
    let same : turning s.y sorted ≡ turning s.y turns = turning_permuted s.y turns sorted moved in (
      λ covered.
          let between = only_between left right ring s wide at covered in
          within.1 (between, λ z. covered (winds between ∙ (sym same ∙ z))),
      λ w z.
          let h = within.0 w in
          h.1 (same ∙ (sym (winds h.0) ∙ z)),
    )
