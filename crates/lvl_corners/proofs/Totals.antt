-- Corners in order are determined by their sums.
use Rattle.std.proofs.Common.{◌≡◌, ◌≢◌, ℕ, zero, suc, ◌<◌, Bool, true, false, ◌&&◌, cond, ◌↔◌, List, [], ◌∷◌, length}
use Rattle.std.proofs.Common.{get_or, ℤ, pos, ◌-ℤ◌, All, Contains, refl, sym, ◌∙◌, subst, arith, inl, inr}
use Rattle.std.proofs.Common.{FitsSigned, lit<}
use Rattle.std.specs.Int.{w8}
use Rattle.std.specs.List.{AllPairs}
use Rattle.std.specs.Ordering.{int_eq}
use Rattle.std.proofs.lemmas.Int.{ints}
use Rattle.std.proofs.lemmas.Bool.{and_parts, and_left, and_right, cases_Bool}
use Rattle.std.proofs.lemmas.List.Elements.{All-head, All-tail, All-contains}
use Rattle.lvl_grid.specs.declared.point.Square.{Square}
use Rattle.lvl_corners.specs.declared.corner.Corner.{Corner}
use Rattle.lvl_corners.specs.declared.mark.Mark.{Mark}
use Rattle.lvl_corners.specs.Corners.{bit, change_at, ComesBefore}
use Rattle.lvl_corners.specs.inside.Marks.{net}
use Rattle.lvl_corners.specs.inside.Sums.{total_at, IsLess, AreTotals}
use Rattle.lvl_corners.proofs.IntTests.{eq_yes, eq_is, ne_above, ne_below}

-- no later corner is at the point of an earlier one
total_past : (x y : ℤ) (ks : List Corner) → All (λ k. IsLess x y k.x k.y) ks → total_at x y ks ≡ pos 0
total_past x y [] h = refl
total_past x y (k ∷ ks) h =
    let here : (int_eq k.y y && int_eq k.x x) ≡ false = elim (All-head (λ k. IsLess x y k.x k.y) k ks h) [
      | inl left ↦ and_right (int_eq k.y y) (int_eq k.x x) (ne_above k.x x left)
      | inr below ↦ and_left (int_eq k.y y) (int_eq k.x x) (ne_above k.y y below.1)
    ] in
    let rest = total_past x y ks (All-tail (λ k. IsLess x y k.x k.y) k ks h) in
    rw (here, rest) refl

pub later_corners : (k : Corner) (ks : List Corner) → AllPairs ComesBefore (k ∷ ks) → AllPairs ComesBefore ks
later_corners k ks up = λ i j d lt far. up (suc i) (suc j) d (omega (arith, lt)) (omega (arith, far))

pub first_corner : (k : Corner) (ks : List Corner) → AllPairs ComesBefore (k ∷ ks)
    → All (λ l. IsLess k.x k.y l.x l.y) ks
first_corner k ks up = λ j d far. up 0 (suc j) d (omega arith) (omega (arith, far))

total_first : (k : Corner) (ks : List Corner) → AllPairs ComesBefore (k ∷ ks) → total_at k.x k.y (k ∷ ks) ≡ k.change
total_first k ks up =
    let rest = total_past k.x k.y ks (first_corner k ks up) in
    let at : int_eq k.y k.y ≡ true = eq_yes k.y k.y refl in
    let at' : int_eq k.x k.x ≡ true = eq_yes k.x k.x refl in
    rw (at, at', rest) (omega (arith, ints))

skipped : (x y : ℤ) (k : Corner) (ks : List Corner) → IsLess k.x k.y x y → total_at x y (k ∷ ks) ≡ total_at x y ks
skipped x y k ks less =
    let here : (int_eq k.y y && int_eq k.x x) ≡ false = elim less [
      | inl left ↦ and_right (int_eq k.y y) (int_eq k.x x) (ne_below k.x x left)
      | inr below ↦ and_left (int_eq k.y y) (int_eq k.x x) (ne_below k.y y below.1)
    ] in
    rw here (omega (arith, ints))

total_at_index : (ks : List Corner) (i : ℕ) (k : Corner) → AllPairs ComesBefore ks → i < length ks → get_or ks i k ≡ k
    → total_at k.x k.y ks ≡ k.change
total_at_index [] i k up lt at = absurd (omega (arith, lt))
total_at_index (l ∷ ls) zero k up lt at = subst (λ k. total_at k.x k.y (l ∷ ls) ≡ k.change) at (total_first l ls up)
total_at_index (l ∷ ls) (suc i) k up lt at =
    let less : IsLess l.x l.y (get_or ls i k).x (get_or ls i k).y = first_corner l ls up i k (omega (arith, lt)) in
    skipped k.x k.y l ls (rw at at less) ∙ total_at_index ls i k (later_corners l ls up) (omega (arith, lt)) at

-- the corner at a point at which the sum of the corners isn't 0
pub record IsFound (ks : List Corner) (x y : ℤ) : Type 0 where
  pub corner : Corner
  pub there : Contains ks corner
  pub at_x : corner.x ≡ x
  pub at_y : corner.y ≡ y

found_later : (k : Corner) (ks : List Corner) (x y : ℤ) → IsFound ks x y → IsFound (k ∷ ks) x y
found_later k ks x y f = record {
  corner = f.corner;
  there = (suc f.there.0, omega (arith, f.there.1), f.there.2);
  at_x = f.at_x;
  at_y = f.at_y;
}

found : (ks : List Corner) (x y : ℤ) → total_at x y ks ≢ pos 0 → IsFound ks x y
found [] x y some = absurd (some refl)
found (k ∷ ks) x y some = elim (cases_Bool (int_eq k.y y && int_eq k.x x)) [
  | inl here ↦
      let parts = and_parts (int_eq k.y y) (int_eq k.x x) here in
      record {
        corner = k;
        there = (0, omega arith, refl);
        at_x = eq_is k.x x parts.1;
        at_y = eq_is k.y y parts.0;
      }
  | inr apart ↦
      let same : total_at x y (k ∷ ks) ≡ total_at x y ks = rw apart (omega (arith, ints)) in
      found_later k ks x y (found ks x y (λ none. some (same ∙ none)))
]

pub corner_is : (k l : Corner) → k.x ≡ l.x → k.y ≡ l.y → k.change ≡ l.change → k ≡ l
corner_is k l e f g =
    let build : ℤ → ℤ → ℤ → Corner = λ x y c. record { x = x; y = y; change = c } in
    let whole : build k.x k.y k.change ≡ build l.x l.y l.change = rw (e, f, g) refl in
    whole

pub total_of : (ks : List Corner) (k : Corner) → AllPairs ComesBefore ks → Contains ks k
    → total_at k.x k.y ks ≡ k.change
total_of ks k up c = total_at_index ks c.0 k up c.1 c.2

contains_by_total : (ks : List Corner) (k : Corner) → AllPairs ComesBefore ks → k.change ≢ pos 0
    → total_at k.x k.y ks ≡ k.change → Contains ks k
contains_by_total ks k up some is =
    let f = found ks k.x k.y (λ none. some (sym is ∙ none)) in
    let total : total_at f.corner.x f.corner.y ks ≡ f.corner.change = total_of ks f.corner up f.there in
    let same : f.corner.change ≡ k.change = sym total ∙ rw (f.at_x, f.at_y) is in
    let e : f.corner ≡ k = corner_is f.corner k f.at_x f.at_y same in
    rw e at f.there

-- corners that add up to the changes at the points for which a test is true: a corner is one of them exactly if the test
-- is true at it, and its change isn't 0 and is that of the set there
pub corner_by_totals : (covered : Square → Bool) (test : ℤ → ℤ → Bool) (marks : List Mark) (ks : List Corner)
    → ((x y : ℤ) → net x y marks ≡ cond (test x y) (change_at covered x y) (pos 0)) → AreTotals marks ks
    → (k : Corner)
    → Contains ks k ↔ ((test k.x k.y ≡ true) × (k.change ≢ pos 0) × (k.change ≡ change_at covered k.x k.y))
corner_by_totals covered test marks ks changes h k =
    let is : total_at k.x k.y ks ≡ cond (test k.x k.y) (change_at covered k.x k.y) (pos 0) =
    h.totals k.x k.y ∙ changes k.x k.y in (
      λ c.
          let some : k.change ≢ pos 0 = All-contains (λ k. k.change ≢ pos 0) ks k h.nonzero c in
          let total : k.change ≡ cond (test k.x k.y) (change_at covered k.x k.y) (pos 0) =
          sym (total_of ks k h.rising c) ∙ is in
          elim (cases_Bool (test k.x k.y)) [
            | inl t ↦ (t, some, rw t at total)
            | inr f ↦ absurd (some (rw f at total))
          ],
      λ all.
          let total : total_at k.x k.y ks ≡ change_at covered k.x k.y = rw all.0 at is in
          contains_by_total ks k h.rising all.1 (total ∙ sym all.2),
    )

-- the change at a point is from -2 to 2
change_fits : (a b c d : Bool) → FitsSigned w8 ((bit a -ℤ bit b) -ℤ (bit c -ℤ bit d))
change_fits true true true true = record { sfits = lit< tt }
change_fits true true true false = record { sfits = lit< tt }
change_fits true true false true = record { sfits = lit< tt }
change_fits true true false false = record { sfits = lit< tt }
change_fits true false true true = record { sfits = lit< tt }
change_fits true false true false = record { sfits = lit< tt }
change_fits true false false true = record { sfits = lit< tt }
change_fits true false false false = record { sfits = lit< tt }
change_fits false true true true = record { sfits = lit< tt }
change_fits false true true false = record { sfits = lit< tt }
change_fits false true false true = record { sfits = lit< tt }
change_fits false true false false = record { sfits = lit< tt }
change_fits false false true true = record { sfits = lit< tt }
change_fits false false true false = record { sfits = lit< tt }
change_fits false false false true = record { sfits = lit< tt }
change_fits false false false false = record { sfits = lit< tt }

pub spanned_fits : (t a b c d : Bool) → FitsSigned w8 (cond t ((bit a -ℤ bit b) -ℤ (bit c -ℤ bit d)) (pos 0))
spanned_fits true a b c d = change_fits a b c d
spanned_fits false a b c d = record { sfits = lit< tt }
