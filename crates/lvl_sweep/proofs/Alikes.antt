-- Facts about edges that don't depend on their order.
use Rattle.std.proofs.Common.{◌≡◌, ℕ, ◌<◌, ◌≤◌, Bool, true, false, ◌&&◌, not, cond, eqb, List, [], ◌∷◌, length, get_or}
use Rattle.std.proofs.Common.{ℤ, pos, ◌<ℤ◌, int_lt, int_le, nat_lt, Option, None, Some, All, count_by, refl, sym, ◌∙◌}
use Rattle.std.proofs.Common.{ap, arith, inl, inr}
use Rattle.std.specs.List.{sum_by}
use Rattle.std.proofs.lemmas.Int.{ints}
use Rattle.std.proofs.lemmas.Bool.{cases_Bool}
use Rattle.std.proofs.lemmas.Bool.Decides.{nat_tests}
use Rattle.std.proofs.lemmas.List.Elements.{All-weaker}
use Rattle.std.proofs.lemmas.List.Sums.{get_or-le-sum_by, sum_by-cons}
use Rattle.lvl_grid.specs.declared.point.Point.{Point}
use Rattle.lvl_sweep.specs.declared.edge.Edge.{Edge}
use Rattle.lvl_sweep.specs.inside.Edges.{net, net_left, IsBeginOf}
use Rattle.lvl_sweep.specs.inside.Alive.{alive, rises, falls, HasSame, AreEdgesOf}
use Rattle.lvl_sweep.specs.inside.Rows.{Balanced, row, alive_at, row_at, bands_from}
use Rattle.lvl_sweep.specs.inside.Runs.{IsSameFrom}
use Rattle.lvl_sweep.specs.inside.Strips.{left}
use Rattle.lvl_sweep.proofs.Winds.{count_none}
use Rattle.lvl_sweep.proofs.Insides.{inside_same}
use Rattle.lvl_sweep.proofs.RowLists.{row_same}
use Rattle.lvl_sweep.proofs.Alive.{sum_filter}
use Rattle.lvl_sweep.proofs.BandLists.{bands_same}

nothing : Edge
nothing = record { low = pos 0; x = pos 0; ring = 0; high = pos 0; up = false }

-- a test that is true of all edges
pub all_alike : (p : Edge → Bool) (es fs : List Edge) → HasSame es fs → All (λ e. p e ≡ true) es
    → All (λ e. p e ≡ true) fs
all_alike p es fs h pass k d lt =
    let miss : Edge → ℕ = λ e. cond (not (p e)) 1 0 in
    let none : count_by (λ e. not (p e)) es ≡ 0 =
    count_none (λ e. not (p e)) es (All-weaker (λ e. p e ≡ true) (λ e. not (p e) ≡ false) (λ e t. rw t refl) es
    pass) in
    let le : miss (get_or fs k d) ≤ sum_by miss fs = get_or-le-sum_by miss fs k d lt in
    elim (cases_Bool (p (get_or fs k d))) [
      | inl t ↦ t
      | inr t ↦ let one : miss (get_or fs k d) ≡ 1 = rw t refl in absurd (omega (arith, le, h miss, none, one))
    ]

net_alike : (r : ℕ) (es fs : List Edge) → HasSame es fs → net r fs ≡ net r es
net_alike r es fs h = rw (h (λ e. cond (eqb e.ring r && e.up) 1 0), h (λ e. cond (eqb e.ring r && not e.up) 1 0)) refl

net_left_alike : (r : ℕ) (z : ℤ) (es fs : List Edge) → HasSame es fs → net_left r z fs ≡ net_left r z es
net_left_alike r z es fs h =
    rw (
      h (λ e. cond (int_le e.x z && (eqb e.ring r && e.up)) 1 0),
      h (λ e. cond (int_le e.x z && (eqb e.ring r && not e.up)) 1 0),
    ) refl

pub balanced_alike : (es fs : List Edge) → HasSame es fs → Balanced es → Balanced fs
balanced_alike es fs h balanced r = net_alike r es fs h ∙ balanced r

pub row_alike : (es fs : List Edge) → HasSame es fs → Balanced es → row fs ≡ row es
row_alike es fs h balanced = row_same fs es (balanced_alike es fs h balanced) balanced (λ z. inside_same fs es z (
  λ f. (f.0, λ e. f.1 (net_left_alike f.0 z es fs h ∙ e)),
  λ f. (f.0, λ e. f.1 (sym (net_left_alike f.0 z es fs h) ∙ e)),
))

-- the intervals of a row are those of the edges alive in it
pub row_of_alive : (es active : List Edge) (y : ℤ) → HasSame (alive_at es y) active → Balanced (alive_at es y)
    → row active ≡ row_at es y
unfolding row_at
row_of_alive es active y h balanced = row_alike (alive_at es y) active h balanced

-- lists with the same edges have the same edges alive in a row
pub alive_alike : (es fs : List Edge) (y : ℤ) → HasSame es fs → HasSame (alive_at es y) (alive_at fs y)
alive_alike es fs y h f =
    sum_filter (alive y) f fs ∙ (h (λ e. cond (alive y e) (f e) 0) ∙ sym (sum_filter (alive y) f es))

pub row_at_alike : (es fs : List Edge) (y : ℤ) → HasSame es fs → Balanced (alive_at es y) → row_at fs y ≡ row_at es y
unfolding row_at
row_at_alike es fs y h balanced = row_alike (alive_at es y) (alive_at fs y) (alive_alike es fs y h) balanced

pub bands_alike : (es fs : List Edge) (o : Option ℤ) → HasSame es fs → ((y : ℤ) → Balanced (alive_at es y))
    → bands_from fs o ≡ bands_from es o
bands_alike es fs o h balanced = bands_same fs es o (λ y. row_at_alike es fs y h (balanced y))

pub left_alike : (es fs : List Edge) (y : ℤ) → HasSame es fs → left fs y ≡ left es y
left_alike es fs y h = rw (h (λ e. cond (int_lt y e.low) 1 0), h (λ e. cond (int_lt y e.high) 1 0)) refl

pub both_alike : (es fs gs : List Edge) → HasSame es fs → HasSame fs gs → HasSame es gs
both_alike es fs gs h k f = k f ∙ h f

each : (es : List Edge) → sum_by (λ e. 1) es ≡ length es
each [] = refl
each (e ∷ es) = omega (arith, sum_by-cons {X = Edge} (λ e. 1) e es, each es)

pub as_long : (es fs : List Edge) → HasSame es fs → length fs ≡ length es
as_long es fs h = sym (each fs) ∙ (h (λ e. 1) ∙ each es)

-- the next edge begins at the same ordinate
pub one_begin : (es fs : List Edge) (i : ℕ) (a b : Option ℤ) → length fs ≡ length es → IsSameFrom es fs i
    → IsBeginOf es i a → IsBeginOf fs i b → b ≡ a
one_begin es fs i None None long same h k = refl
one_begin es fs i None (Some y) long same h k = absurd (omega (arith, long, h, k.0))
one_begin es fs i (Some x) None long same h k = absurd (omega (arith, long, h.0, k))
one_begin es fs i (Some x) (Some y) long same h k =
    let e : y ≡ x = sym (k.1 nothing) ∙ (ap (λ (d : Edge). d.low) (same i nothing (omega arith)) ∙ h.1 nothing) in
    ap Some e

ring_test : (a n : ℕ) → a < n → nat_lt a n ≡ true
ring_test a n h = grind (arith, nat_tests)

ring_below : (a n : ℕ) → nat_lt a n ≡ true → a < n
ring_below a n h = grind (arith, nat_tests)

full_test : (a b : ℤ) → a <ℤ b → int_lt a b ≡ true
full_test a b h = grind (arith, ints)

full_is : (a b : ℤ) → int_lt a b ≡ true → a <ℤ b
full_is a b h = grind (arith, ints)

-- the vertical edges of rings, in any order
pub edges_of_alike : (rings : List (List Point)) (es fs : List Edge) → HasSame es fs → AreEdgesOf rings es
    → AreEdgesOf rings fs
edges_of_alike rings es fs h of = record {
  rising = λ r s lt. of.rising r s lt ∙ sym (h (λ e. cond (rises r s e) 1 0));
  falling = λ r s lt. of.falling r s lt ∙ sym (h (λ e. cond (falls r s e) 1 0));
  numbers = All-weaker (λ e. nat_lt e.ring (length rings) ≡ true) (λ e. e.ring < length rings)
      (λ e k. ring_below e.ring (length rings) k) fs
      (all_alike (λ e. nat_lt e.ring (length rings)) es fs h
      (All-weaker (λ e. e.ring < length rings) (λ e. nat_lt e.ring (length rings) ≡ true)
      (λ e k. ring_test e.ring (length rings) k) es of.numbers));
  full = All-weaker (λ e. int_lt e.low e.high ≡ true) (λ e. e.low <ℤ e.high) (λ e k. full_is e.low e.high k) fs
      (all_alike (λ e. int_lt e.low e.high) es fs h (All-weaker (λ e. e.low <ℤ e.high) (λ e. int_lt e.low e.high ≡ true)
      (λ e k. full_test e.low e.high k) es of.full));
}
