-- Where the strip of a sweep ends.
use Rattle.std.proofs.Common.{◌≡◌, ℕ, ◌<◌, ◌≤◌, Bool, true, false, List, [], ◌∷◌, length, get_or, ℤ, ◌<ℤ◌, ◌≤ℤ◌, int_lt}
use Rattle.std.proofs.Common.{Option, None, Some, All, count_by, refl, sym, ◌∙◌, ap, arith, inl, inr, zero, suc}
use Rattle.std.specs.List.{AllWithin}
use Rattle.std.proofs.lemmas.Int.{ints}
use Rattle.std.proofs.lemmas.Bool.{cases_lt}
use Rattle.std.proofs.lemmas.List.{get_or_default}
use Rattle.lvl_sweep.specs.declared.edge.Edge.{Edge}
use Rattle.lvl_sweep.specs.declared.strips.Strips.{Strips}
use Rattle.lvl_sweep.specs.inside.Edges.{IsBeginOf}
use Rattle.lvl_sweep.specs.inside.Alive.{alive}
use Rattle.lvl_sweep.specs.inside.Runs.{IsEndOf}
use Rattle.lvl_sweep.specs.inside.Strips.{AreStrips, IsAt, IsTop, IsOver, left}
use Rattle.lvl_sweep.proofs.Winds.{bit, count_cons}
use Rattle.lvl_sweep.proofs.BandLists.{row_at_none, row_at_same}
use Rattle.lvl_sweep.proofs.Loads.{nothing, dead_low, dead_high, alive_there}

-- up to t the same edges are alive
same_alive : (s : Strips) (t v : ℤ) → IsAt s → AllWithin (λ e. t ≤ℤ e.high) s.edges.items s.from s.next
    → AllWithin (λ e. t ≤ℤ e.low) s.edges.items s.next (length s.edges.items) → s.y ≤ℤ v → v <ℤ t
    → All (λ e. alive v e ≡ alive s.y e) s.edges.items
same_alive s t v h ends coming le lt k d within =
    let e : Edge = get_or s.edges.items k d in
    elim (cases_lt k s.from) [
      | inl near ↦
          let high : e.high ≤ℤ s.y = h.ended k d (omega arith) near in
          dead_low v e (omega (arith, ints, high, le)) ∙ sym (dead_low s.y e high)
      | inr on ↦ elim (cases_lt k s.next) [
        | inl here ↦
            let low : e.low ≤ℤ s.y = h.begun k d (omega arith) here in
            let far : t ≤ℤ e.high = ends k d on here in
            let up : s.y <ℤ e.high = h.alive k d on here in
            alive_there v e (omega (arith, ints, low, le)) (omega (arith, ints, far, lt))
            ∙ sym (alive_there s.y e low up)
        | inr later ↦
            let low : t ≤ℤ e.low = coming k d later within in
            dead_high v e (omega (arith, ints, low, lt)) ∙ sym (dead_high s.y e (omega (arith, ints, low, le, lt)))
      ]
    ]

bit_le : (a b : Bool) → (a ≡ true → b ≡ true) → bit a ≤ bit b
bit_le true b h = rw (h refl) (omega arith)
bit_le false b h = omega arith

-- a test that is true of fewer edges
pub fewer_by : {A : Type 0} (p q : A → Bool) (es : List A) → ((e : A) → q e ≡ true → p e ≡ true)
    → count_by q es ≤ count_by p es
fewer_by p q [] h = omega arith
fewer_by p q (e ∷ es) h =
    let step : bit (q e) ≤ bit (p e) = bit_le (q e) (p e) (h e) in
    omega (arith, count_cons q e es, count_cons p e es, step, fewer_by p q es h)

-- and of one edge no longer
pub fewer_at : {A : Type 0} (p q : A → Bool) (es : List A) (k : ℕ) (d : A) → ((e : A) → q e ≡ true → p e ≡ true)
    → k < length es → p (get_or es k d) ≡ true → q (get_or es k d) ≡ false → count_by q es < count_by p es
fewer_at p q [] k d h lt a b = absurd (omega (arith, lt))
fewer_at p q (e ∷ es) zero d h lt a b =
    let one : bit (p e) ≡ bit true = ap bit a in
    let none : bit (q e) ≡ bit false = ap bit b in
    omega (arith, count_cons q e es, count_cons p e es, one, none, fewer_by p q es h)
fewer_at p q (e ∷ es) (suc k) d h lt a b =
    let step : bit (q e) ≤ bit (p e) = bit_le (q e) (p e) (h e) in
    let rest : count_by q es < count_by p es = fewer_at p q es k d h (omega (arith, lt)) a b in
    omega (arith, count_cons q e es, count_cons p e es, step, rest)

not_past : (y t a : ℤ) → y <ℤ t → int_lt t a ≡ true → int_lt y a ≡ true
not_past y t a lt h = grind (arith, ints)

low_left : (es : List Edge) (y t : ℤ) (k : ℕ) (d : Edge) → y <ℤ t → k < length es → (get_or es k d).low ≡ t
    → left es t < left es y
low_left es y t k d lt within is =
    let a : int_lt y (get_or es k d).low ≡ true = grind (arith, ints) in
    let b : int_lt t (get_or es k d).low ≡ false = grind (arith, ints) in
    let lows : count_by (λ e. int_lt t e.low) es < count_by (λ e. int_lt y e.low) es =
    fewer_at (λ e. int_lt y e.low) (λ e. int_lt t e.low) es k d (λ e. not_past y t e.low lt) within a b in
    let highs : count_by (λ e. int_lt t e.high) es ≤ count_by (λ e. int_lt y e.high) es =
    fewer_by (λ e. int_lt y e.high) (λ e. int_lt t e.high) es (λ e. not_past y t e.high lt) in
    omega (arith, lows, highs)

high_left : (es : List Edge) (y t : ℤ) (k : ℕ) (d : Edge) → y <ℤ t → k < length es → (get_or es k d).high ≡ t
    → left es t < left es y
high_left es y t k d lt within is =
    let a : int_lt y (get_or es k d).high ≡ true = grind (arith, ints) in
    let b : int_lt t (get_or es k d).high ≡ false = grind (arith, ints) in
    let highs : count_by (λ e. int_lt t e.high) es < count_by (λ e. int_lt y e.high) es =
    fewer_at (λ e. int_lt y e.high) (λ e. int_lt t e.high) es k d (λ e. not_past y t e.high lt) within a b in
    let lows : count_by (λ e. int_lt t e.low) es ≤ count_by (λ e. int_lt y e.low) es =
    fewer_by (λ e. int_lt y e.low) (λ e. int_lt t e.low) es (λ e. not_past y t e.low lt) in
    omega (arith, lows, highs)

-- if the next edge begins at t, all edges still to come begin at t or above
from_begin : (s : Strips) (t : ℤ) → AreStrips s
    → ((d : Edge) → s.next < length s.edges.items → t ≤ℤ (get_or s.edges.items s.next d).low)
    → AllWithin (λ e. t ≤ℤ e.low) s.edges.items s.next (length s.edges.items)
from_begin s t h first k d low lt =
    let next : t ≤ℤ (get_or s.edges.items s.next d).low = first d (omega (arith, low, lt)) in
    elim (cases_lt s.next k) [
      | inl far ↦ let up : (get_or s.edges.items s.next d).low ≤ℤ (get_or s.edges.items k d).low =
          (h.order s.next k d (omega arith) far lt).0 in omega (arith, ints, next, up)
      | inr near ↦ let e : k ≡ s.next = omega (arith, low, near) in rw e next
    ]

-- where the next edge begins
pub begin_of : (es : List Edge) (i : ℕ) → (o : Option ℤ) × IsBeginOf es i o
    × ((b : ℤ) → o ≡ Some b → (i < length es) × ((d : Edge) → (get_or es i d).low ≡ b))
    × ((d : Edge) → i < length es → o ≡ Some (get_or es i d).low)
begin_of es i = elim (cases_lt i (length es)) [
  | inl lt ↦ (
    Some (get_or es i nothing).low,
    (lt, λ d. ap (λ (e : Edge). e.low) (get_or_default es i d nothing lt)),
    (λ b e. let same : (get_or es i nothing).low ≡ b = cc in
        (lt, λ d. ap (λ (e : Edge). e.low) (get_or_default es i d nothing lt) ∙ same)),
    λ d k. ap (λ (e : Edge). Some e.low) (get_or_default es i nothing d lt),
  )
  | inr ge ↦ (None, ge, (λ b e. absurd (let clash : None ≡ Some b = e in cc)), λ d k. absurd (omega (arith, ge, k)))
]

-- the strip ends at the least ordinate at which an edge ends or the next begins
pub topped : (s : Strips) (t : ℤ) → IsAt s → s.top ≡ Some t → IsTop s t
topped s t h top =
    let es : List Edge = s.edges.items in
    let next = begin_of es s.next in
    let reach : IsEndOf es s.from s.next next.0 (Some t) = rw top at (h.top next.0 next.1) in
    let coming : AllWithin (λ e. t ≤ℤ e.low) es s.next (length es) =
    from_begin s t h.strips (λ d lt. reach.1 (get_or es s.next d).low (next.3 d lt)) in
    let found : (s.y <ℤ t) × (left es t < left es s.y) = elim reach.2 [
      | inl f ↦
          let high : (get_or es f.0 nothing).high ≡ t = f.3 nothing in
          let up : s.y <ℤ (get_or es f.0 nothing).high = h.alive f.0 nothing f.1 f.2 in
          let lt : s.y <ℤ t = omega (arith, ints, high, up) in
          (lt, high_left es s.y t f.0 nothing lt (omega (arith, f.2, h.strips.within.1)) high)
      | inr begin ↦
          let b : (s.next < length es) × ((d : Edge) → (get_or es s.next d).low ≡ t) = next.2 t begin in
          let low : s.y <ℤ (get_or es s.next nothing).low = h.coming s.next nothing (omega arith) b.0 in
          let is : (get_or es s.next nothing).low ≡ t = b.1 nothing in
          let lt : s.y <ℤ t = omega (arith, ints, low, is) in
          (lt, low_left es s.y t s.next nothing lt b.0 is)
    ] in
    record {
      above = found.0;
      same = λ v le lt. row_at_same es s.y v (same_alive s t v h reach.0 coming le lt);
      ready = record {
        strips = h.strips;
        ended = λ k d low lt. let down : (get_or es k d).high ≤ℤ s.y = h.ended k d low lt in
            omega (arith, ints, down, found.0);
        begun = λ k d low lt. let down : (get_or es k d).low ≤ℤ s.y = h.begun k d low lt in
            omega (arith, ints, down, found.0);
        coming = coming;
      };
      fewer = found.1;
    }

-- if no edge is alive or still to come, no row from here on has intervals
pub over : (s : Strips) → IsAt s → s.top ≡ None → IsOver s
over s h top v le =
    let es : List Edge = s.edges.items in
    let next = begin_of es s.next in
    let reach : IsEndOf es s.from s.next next.0 None = rw top at (h.top next.0 next.1) in
    row_at_none es v (λ k d lt.
    let all : length es ≤ s.next = elim (cases_lt s.next (length es)) [
      | inl more ↦ absurd (let clash : None ≡ Some (get_or es s.next nothing).low = sym reach.1 ∙ next.3 nothing more in
          cc)
      | inr none ↦ none
    ] in
    let high : (get_or es k d).high ≤ℤ s.y = h.ended k d (omega arith) (omega (arith, reach.0, all, lt)) in
    dead_low v (get_or es k d) (omega (arith, ints, high, le)))
