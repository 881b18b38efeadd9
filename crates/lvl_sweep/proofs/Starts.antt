-- How a sweep begins: the edges of closed rings balance in each row, and none has begun.
use Rattle.std.proofs.Common.{◌≡◌, ℕ, ◌<◌, ◌≤◌, ◌^◌, Bool, true, false, ◌&&◌, not, eqb, List, [], ◌∷◌, length, get_or}
use Rattle.std.proofs.Common.{ℤ, pos, ◌-ℤ◌, ◌<ℤ◌, ◌≤ℤ◌, int_lt, int_le, Option, None, Some, All, count_by, IfSome}
use Rattle.std.proofs.Common.{IfNone, refl, sym, ◌∙◌, arith, inl, inr}
use Rattle.std.specs.List.{AllWithin}
use Rattle.std.proofs.lemmas.Int.{ints, by_lt_z}
use Rattle.std.proofs.lemmas.Bool.{cases_lt}
use Rattle.std.proofs.lemmas.List.Elements.{All-weaker, All-nil, All-cons, All-filter}
use Rattle.lvl_grid.specs.declared.point.Point.{Point}
use Rattle.lvl_grid.specs.declared.point.Square.{Square}
use Rattle.lvl_grid.specs.Winding.{winding, edges, goes_up, goes_down}
use Rattle.lvl_grid.proofs.Sides.{winding_left}
use Rattle.lvl_sweep.specs.declared.edge.Edge.{Edge}
use Rattle.lvl_sweep.specs.declared.strips.Strips.{Strips}
use Rattle.lvl_sweep.specs.inside.Edges.{net, AreAtRest, IsBeginOf}
use Rattle.lvl_sweep.specs.inside.Alive.{alive, AreInOrder, AreEdgesOf}
use Rattle.lvl_sweep.specs.inside.Rows.{Balanced, alive_at, row_at}
use Rattle.lvl_sweep.specs.inside.Strips.{AreStrips, IsAt, CanLoad, IsTop, IsOver}
use Rattle.lvl_sweep.proofs.Winds.{count_same, no_ring}
use Rattle.lvl_sweep.proofs.Alive.{alive_count}
use Rattle.lvl_sweep.proofs.BandLists.{row_at_none}
use Rattle.lvl_sweep.proofs.Tops.{topped, over}

-- there is a number below all numbers of a list
lowest : {A : Type 0} (f : A → ℤ) (xs : List A) → (x : ℤ) × All (λ a. x <ℤ f a) xs
lowest f [] = (pos 0, All-nil (λ a. pos 0 <ℤ f a))
lowest f (a ∷ xs) =
    let rest = lowest f xs in
    by_lt_z rest.0 (f a)
    (λ lt. (rest.0, All-cons (λ b. rest.0 <ℤ f b) a xs lt rest.1))
    (λ ge. let low : ℤ = f a -ℤ pos 1 in (
      low,
      All-cons (λ b. low <ℤ f b) a xs (omega (arith, ints)) (All-weaker (λ b. rest.0 <ℤ f b) (λ b. low <ℤ f b)
          (λ b k. omega (arith, ints, k, ge)) xs rest.1),
    ))

lower_of_two : (a b : ℤ) → (x : ℤ) × (x ≤ℤ a) × (x ≤ℤ b)
lower_of_two a b =
    by_lt_z a b (λ lt. (a, omega (arith, ints), omega (arith, ints, lt)))
    (λ ge. (b, omega (arith, ints, ge), omega (arith, ints)))

right_too : (a b c : Bool) → b ≡ true → (a && (b && c)) ≡ (a && c)
right_too true b c e = rw e refl
right_too false b c e = refl

-- left of everything all edges of a row count
all_count : (t : Edge → Bool) (y x : ℤ) (es : List Edge) → All (λ e. x <ℤ e.x) es
    → count_by (λ e. alive y e && (int_lt x e.x && t e)) es ≡ count_by t (alive_at es y)
all_count t y x es far =
    count_same (λ e. alive y e && (int_lt x e.x && t e)) (λ e. alive y e && t e) es
    (All-weaker (λ e. x <ℤ e.x) (λ e. (alive y e && (int_lt x e.x && t e)) ≡ (alive y e && t e))
    (λ e k. right_too (alive y e) (int_lt x e.x) (t e) (let h : int_lt x e.x ≡ true = grind (arith, ints) in h)) es
    far)
    ∙ sym (alive_count t y es (alive_at es y) (λ f. refl))

ring_closes : (rings : List (List Point)) (es : List Edge) (y : ℤ) (r : ℕ) → AreEdgesOf rings es → r < length rings
    → net r (alive_at es y) ≡ pos 0
ring_closes rings es y r of lt =
    let ring : List Point = get_or rings r [] in
    let a = lowest (λ (e : Edge). e.x) es in
    let b = lowest (λ (p : Point). p.x) ring in
    let low = lower_of_two a.0 b.0 in
    let s : Square = record { x = low.0; y = y } in
    let none : winding ring s ≡ pos 0 =
    winding_left s ring (All-weaker (λ (p : Point). b.0 <ℤ p.x) (λ p. int_lt s.x p.x ≡ true)
    (λ p k. grind (arith, ints)) ring b.1) in
    let far : All (λ e. low.0 <ℤ e.x) es = All-weaker (λ (e : Edge). a.0 <ℤ e.x) (λ e. low.0 <ℤ e.x)
    (λ e k. omega (arith, ints, k, low.1)) es a.1 in
    let ups : count_by (goes_up s) (edges ring) ≡ count_by (λ e. eqb e.ring r && e.up) (alive_at es y) =
    of.rising r s lt ∙ all_count (λ e. eqb e.ring r && e.up) y low.0 es far in
    let downs : count_by (goes_down s) (edges ring) ≡ count_by (λ e. eqb e.ring r && not e.up) (alive_at es y) =
    of.falling r s lt ∙ all_count (λ e. eqb e.ring r && not e.up) y low.0 es far in
    rw (ups, downs) at none

-- in each row a ring goes up as often as down
pub rings_close : (rings : List (List Point)) (es : List Edge) → AreEdgesOf rings es → (y : ℤ)
    → Balanced (alive_at es y)
rings_close rings es of y r = elim (cases_lt r (length rings)) [
  | inl lt ↦ ring_closes rings es y r of lt
  | inr ge ↦ no_ring r (length rings) (alive_at es y) (All-filter (alive y) (λ e. e.ring < length rings) es of.numbers)
      ge
]

pub start_strips : (rings : List (List Point)) (s : Strips) → AreEdgesOf rings s.edges.items → AreInOrder s.edges.items
    → length s.edges.items < 2 ^ 63 → s.from ≡ 0 → s.next ≡ 0 → AreAtRest s.windings
    → length s.windings.counts.items ≡ length rings → AreStrips s
start_strips rings s of order few from next rest many = record {
  order = λ i j d low on lt. order i j d on lt;
  full = of.full;
  numbers = rw many of.numbers;
  few = few;
  balanced = rings_close rings s.edges.items of;
  within = (omega (arith, from, next), omega (arith, next));
  rising = λ i j d low on lt. absurd (omega (arith, on, lt, next));
  rest = rest;
}

none_before : (P : Edge → Type 0) (es : List Edge) (n : ℕ) → n ≡ 0 → AllWithin P es 0 n
none_before P es n e k d low lt = absurd (omega (arith, e, lt))

all_from_first : (es : List Edge) (y : ℤ) → AreInOrder es → IsBeginOf es 0 (Some y) → (k : ℕ) (d : Edge) → k < length es
    → y ≤ℤ (get_or es k d).low
all_from_first es y order begin k d lt =
    let first : (get_or es 0 d).low ≡ y = begin.1 d in
    elim (cases_lt 0 k) [
      | inl far ↦ let up : (get_or es 0 d).low ≤ℤ (get_or es k d).low = (order 0 k d far lt).0 in
          omega (arith, ints, first, up)
      | inr near ↦ let e : k ≡ 0 = omega arith in rw e (omega (arith, ints, first))
    ]

pub can_start : (s : Strips) (y : ℤ) → AreStrips s → AreInOrder s.edges.items → s.from ≡ 0 → s.next ≡ 0
    → IsBeginOf s.edges.items 0 (Some y) → CanLoad s y
can_start s y strips order from next begin = record {
  strips = strips;
  ended = none_before (λ e. e.high ≤ℤ y) s.edges.items s.from from;
  begun = none_before (λ e. e.low ≤ℤ y) s.edges.items s.next next;
  coming = λ k d low lt. all_from_first s.edges.items y order begin k d lt;
}

-- below the first edge's lower end no row has intervals
pub none_below : (es : List Edge) (y v : ℤ) → AreInOrder es → IsBeginOf es 0 (Some y) → v <ℤ y → row_at es v ≡ []
none_below es y v order begin lt = row_at_none es v (λ k d within.
    let low : y ≤ℤ (get_or es k d).low = all_from_first es y order begin k d within in
    let t : int_le (get_or es k d).low v ≡ false = grind (arith, ints) in
    rw t refl)

pub none_anywhere : (es : List Edge) (v : ℤ) → length es ≤ 0 → row_at es v ≡ []
none_anywhere es v empty = row_at_none es v (λ k d within. absurd (omega (arith, empty, within)))

pub no_items : {A : Type 0} (xs : List A) → length xs ≤ 0 → xs ≡ []
no_items [] h = refl
no_items (x ∷ xs) h = absurd (omega (arith, h))

no_begin : (es : List Edge) (i : ℕ) (o : Option ℤ) → length es ≤ 0 → IsBeginOf es i o → o ≡ None
no_begin es i None empty is = refl
no_begin es i (Some y) empty is = absurd (omega (arith, empty, is.0))

pub no_start : (s : Strips) → AreStrips s → s.from ≡ 0 → s.next ≡ 0 → s.top ≡ None → length s.edges.items ≤ 0 → IsAt s
no_start s strips from next top empty = record {
  strips = strips;
  ended = none_before (λ e. e.high ≤ℤ s.y) s.edges.items s.from from;
  begun = none_before (λ e. e.low ≤ℤ s.y) s.edges.items s.next next;
  alive = λ k d low lt. absurd (omega (arith, next, lt));
  coming = λ k d low lt. absurd (omega (arith, lt, empty));
  top = λ b is. rw top (omega (arith, from, next), no_begin s.edges.items s.next b empty is);
}

pub top_some : (s : Strips) (r : Option ℤ) → IsAt s → r ≡ s.top → IfSome r (λ t. IsTop s t)
top_some s None h e = tt
top_some s (Some t) h e = topped s t h (sym e)

pub top_none : (s : Strips) (r : Option ℤ) → IsAt s → r ≡ s.top → IfNone r (IsOver s)
top_none s None h e = over s h (sym e)
top_none s (Some t) h e = tt
