-- The corners of two adjacent columns.
use Rattle.std.proofs.Common.{◌≡◌, Bool, true, false, ◌||◌, List, [], ◌++◌}
use Rattle.std.proofs.Common.{ℤ, pos, ◌-ℤ◌, ◌<ℤ◌, ◌≤ℤ◌, int_lt, int_le, ◌↔◌, inl, inr, Contains, Option, None}
use Rattle.std.proofs.Common.{Some}
use Rattle.std.proofs.Common.{refl, sym, ◌∙◌, ap, arith}
use Rattle.std.specs.Bool.{Decides}
use Rattle.std.specs.Int.{int_min}
use Rattle.std.proofs.lemmas.Int.{ints, by_lt_z, clamps}
use Rattle.std.proofs.lemmas.Bool.{and_parts, and_from, or_cases, or_left, or_right}
use Rattle.std.proofs.lemmas.Bool.Decides.{same_from_decides}
use Rattle.std.proofs.lemmas.List.Elements.{Contains-append_cases, Contains-append_left}
use Rattle.std.proofs.lemmas.List.Elements.{Contains-append_right}
use Rattle.lvl_grid.specs.declared.point.Square.{Square}
use Rattle.lvl_sweep.specs.Ahead.{is_from}
use Rattle.lvl_corners.specs.declared.corner.Corner.{Corner}
use Rattle.lvl_corners.specs.declared.span.Span.{Span}
use Rattle.lvl_corners.specs.Corners.{bit, change_at, ComesBefore, IsBounded, AreCornersOf}
use Rattle.lvl_corners.proofs.Pairs.{pairs_of_both}
use Rattle.lvl_corners.specs.Spans.{is_below, spanned, whole, left_part, right_part, AreCornersIn}

-- the corners at all abscissas are the corners
pub corners_in_all : (P : Square → Type 0) (ks : List Corner) → AreCornersIn P whole ks → AreCornersOf P ks
corners_in_all P ks h = record {
  covered = h.covered;
  is_covered = h.is_covered;
  bounded = h.bounded;
  corners_are = record {
    rising = h.rising;
    each = λ k. (
      λ c. let all = (h.each k).0 c in (all.1, all.2),
      λ both. (h.each k).1 (refl, both.0, both.1),
    );
  };
}

-- a set without squares has no corners
pub no_corners_in : (P : Square → Type 0) (span : Span) → ((s : Square) → P s → ⊥) → AreCornersIn P span []
no_corners_in P span none = record {
  covered = λ s. false;
  is_covered = λ s. (λ t. cc, λ p. absurd (none s p));
  bounded = record { left = pos 0; bottom = pos 0; each = λ s t. absurd (cc) };
  rising = λ i j d lt far. absurd (omega (arith, far));
  each = λ k. (λ c. let none = c.1 in absurd (omega (arith, none)), λ all. absurd (all.1 all.2));
}

-- the corners are those of any set with the same squares
pub corners_same : (P Q : Square → Type 0) (span : Span) (ks : List Corner) → ((s : Square) → P s ↔ Q s)
    → AreCornersIn P span ks → AreCornersIn Q span ks
corners_same P Q span ks same h = record {
  covered = h.covered;
  is_covered = λ s. (λ t. (same s).0 ((h.is_covered s).0 t), λ q. (h.is_covered s).1 ((same s).1 q));
  bounded = h.bounded;
  rising = h.rising;
  each = h.each;
}

-- a half of a column is a half of what the column covers
pub half_of : (A C P H : Type 0) → (H ↔ (A × C)) → (C ↔ P) → H ↔ (A × P)
half_of A C P H half column = (
  λ h. ((half.0 h).0, column.0 (half.0 h).1),
  λ both. half.1 (both.0, column.1 both.1),
)

-- the squares left of an abscissa, and those from one before it on
pub record AreHalves (P L R : Square → Type 0) (at : ℤ) : Type 0 where
  pub left : (s : Square) → L s ↔ ((s.x <ℤ at) × P s)
  pub right : (s : Square) → R s ↔ (((at -ℤ pos 1) ≤ℤ s.x) × P s)

pub bounded_both : (c e : Square → Bool) → IsBounded c → IsBounded e → IsBounded (λ s. c s || e s)
bounded_both c e b d = record {
  left = int_min b.left d.left;
  bottom = int_min b.bottom d.bottom;
  each = λ s h. elim (or_cases (c s) (e s) h) [
    | inl t ↦ let low = b.each s t in (omega (arith, ints, clamps, low.0), omega (arith, ints, clamps, low.1))
    | inr t ↦ let low = d.each s t in (omega (arith, ints, clamps, low.0), omega (arith, ints, clamps, low.1))
  ];
}

-- at a square of one half, a test that decides the set of that half decides the whole set
pub half_test : (P H : Square → Type 0) (here : Type 0) (s : Square) (t : Bool) → Decides t (H s)
    → H s ↔ (here × P s) → here
    → Decides t (P s)
half_test P H here s t d h at = (λ e. (h.0 (d.0 e)).1, λ p. d.1 (h.1 (at, p)))

both_decide : (P L R : Square → Type 0) (at : ℤ) (h : AreHalves P L R at) (c e : Square → Bool)
    → ((s : Square) → Decides (c s) (L s)) → ((s : Square) → Decides (e s) (R s)) → (s : Square)
    → Decides (c s || e s) (P s)
both_decide P L R at h c e l r s = (
  λ t. elim (or_cases (c s) (e s) t) [
    | inl u ↦ ((h.left s).0 ((l s).0 u)).1
    | inr u ↦ ((h.right s).0 ((r s).0 u)).1
  ],
  λ p. by_lt_z s.x at
      (λ lt. or_left (c s) (e s) ((l s).1 ((h.left s).1 (lt, p))))
      (λ ge. or_right (c s) (e s) ((r s).1 ((h.right s).1 (omega (arith, ints, ge), p)))),
)

pub same_change : (c e : Square → Bool) (x y : ℤ) → ((v : ℤ) → c (record { x = x; y = v }) ≡ e (record { x = x; y = v }))
    → ((v : ℤ) → c (record { x = x -ℤ pos 1; y = v }) ≡ e (record { x = x -ℤ pos 1; y = v }))
    → change_at c x y ≡ change_at e x y
same_change c e x y here before =
    rw (ap bit (here y), ap bit (before y), ap bit (here (y -ℤ pos 1)), ap bit (before (y -ℤ pos 1))) refl

pub below_end : (o : Option ℤ) (x at : ℤ) → x <ℤ at → is_below o at ≡ true → is_below o x ≡ true
below_end None x at lt h = refl
below_end (Some b) x at lt h = let high : at <ℤ b = grind (arith, ints) in let low : x <ℤ b = omega (
  arith,
  ints,
  lt,
  high,
) in
    grind (arith, ints)

pub from_start : (o : Option ℤ) (x at : ℤ) → at ≤ℤ x → is_from o at ≡ true → is_from o x ≡ true
from_start None x at le h = refl
from_start (Some a) x at le h = let low : a ≤ℤ at = grind (arith, ints) in let up : a ≤ℤ x = omega (
  arith,
  ints,
  le,
  low,
) in
    grind (arith, ints)

pub lt_of : (a b : ℤ) → int_lt a b ≡ true → a <ℤ b
lt_of a b h = grind (arith, ints)

pub lt_test : (a b : ℤ) → a <ℤ b → int_lt a b ≡ true
lt_test a b h = grind (arith, ints)

pub le_of : (a b : ℤ) → int_le a b ≡ true → a ≤ℤ b
le_of a b h = grind (arith, ints)

pub le_test : (a b : ℤ) → a ≤ℤ b → int_le a b ≡ true
le_test a b h = grind (arith, ints)

-- the corners at both sides of an abscissa are those at all abscissas of the span
pub corners_of_halves : (P L R : Square → Type 0) (span : Span) (at : ℤ) (ks ls : List Corner) → AreHalves P L R at
    → spanned span at ≡ true → AreCornersIn L (left_part span at) ks → AreCornersIn R (right_part span at) ls
    → AreCornersIn P span (ks ++ ls)
corners_of_halves P L R span at ks ls halves inner l r =
    let c : Square → Bool = λ s. l.covered s || r.covered s in
    let ends = and_parts (is_from span.from at) (is_below span.below at) inner in
    let decides : (s : Square) → Decides (c s) (P s) =
    both_decide P L R at halves l.covered r.covered l.is_covered r.is_covered in
    let on_left : (s : Square) → s.x <ℤ at → c s ≡ l.covered s = λ s lt. same_from_decides (c s) (l.covered s)
    (decides s)
    (half_test P L (s.x <ℤ at) s (l.covered s) (l.is_covered s) (halves.left s) lt) in
    let on_right : (s : Square) → (at -ℤ pos 1) ≤ℤ s.x → c s ≡ r.covered s = λ s le.
    same_from_decides (c s) (r.covered s) (decides s)
    (half_test P R ((at -ℤ pos 1) ≤ℤ s.x) s (r.covered s) (r.is_covered s) (halves.right s) le) in
    let left_change : (x y : ℤ) → x <ℤ at → change_at c x y ≡ change_at l.covered x y = λ x y lt.
    same_change c l.covered x y (λ v. on_left (record { x = x; y = v }) lt)
    (λ v. on_left (record { x = x -ℤ pos 1; y = v }) (omega (arith, ints, lt))) in
    let right_change : (x y : ℤ) → at ≤ℤ x → change_at c x y ≡ change_at r.covered x y = λ x y le.
    same_change c r.covered x y (λ v. on_right (record { x = x; y = v }) (omega (arith, ints, le)))
    (λ v. on_right (record { x = x -ℤ pos 1; y = v }) (omega (arith, ints, le))) in
    let left_of : (k : Corner) → Contains ks k → k.x <ℤ at = λ k there.
    lt_of k.x at (and_parts (is_from span.from k.x) (int_lt k.x at) ((l.each k).0 there).0).1 in
    let right_of : (k : Corner) → Contains ls k → at ≤ℤ k.x = λ k there.
    le_of at k.x (and_parts (int_le at k.x) (is_below span.below k.x) ((r.each k).0 there).0).0 in
    record {
      covered = c;
      is_covered = decides;
      bounded = bounded_both l.covered r.covered l.bounded r.bounded;
      rising = pairs_of_both ComesBefore ks ls l.rising r.rising (λ k m there other.
          let low = left_of k there in
          let high = right_of m other in
          inl (omega (arith, ints, low, high)));
      each = λ k. (
        λ there. elim (Contains-append_cases ks ls k there) [
          | inl here ↦
              let all = (l.each k).0 here in
              let lt : k.x <ℤ at = left_of k here in (
                and_from (is_from span.from k.x) (is_below span.below k.x)
                    (and_parts (is_from span.from k.x) (int_lt k.x at) all.0).0 (below_end span.below k.x at lt ends.1),
                all.1,
                all.2 ∙ sym (left_change k.x k.y lt),
              )
          | inr here ↦
              let all = (r.each k).0 here in
              let le : at ≤ℤ k.x = right_of k here in (
                and_from (is_from span.from k.x) (is_below span.below k.x) (from_start span.from k.x at le ends.0)
                    (and_parts (int_le at k.x) (is_below span.below k.x) all.0).1,
                all.1,
                all.2 ∙ sym (right_change k.x k.y le),
              )
        ],
        λ all.
            let parts = and_parts (is_from span.from k.x) (is_below span.below k.x) all.0 in
            by_lt_z k.x at
            (λ lt. Contains-append_left ks ls k ((l.each k).1 (
              and_from (is_from span.from k.x) (int_lt k.x at) parts.0
                  (lt_test k.x at lt),
              all.1,
              all.2 ∙ left_change k.x k.y lt,
            )))
            (λ ge. Contains-append_right ks ls k ((r.each k).1 (
              and_from (int_le at k.x) (is_below span.below k.x)
                  (le_test at k.x ge) parts.1,
              all.1,
              all.2 ∙ right_change k.x k.y ge,
            ))),
      );
    }
