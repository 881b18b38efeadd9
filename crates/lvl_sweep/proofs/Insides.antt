-- Whether some ring winds round the squares at an abscissa.
use Rattle.std.proofs.Common.{◌≡◌, ◌≢◌, ℕ, ◌+◌, ◌<◌, ◌≤◌, Bool, true, false, ◌&&◌, not, eqb, List, get_or, ℤ, pos, ◌<ℤ◌}
use Rattle.std.proofs.Common.{◌≤ℤ◌, int_le, unsigned_abs, All, Any, count_by, IsTrue, ◌↔◌, refl, ◌∙◌, arith, inl, inr}
use Rattle.std.specs.List.{list_any}
use Rattle.std.specs.Ordering.{int_eq}
use Rattle.std.proofs.lemmas.Int.{ints, by_lt_z}
use Rattle.std.proofs.lemmas.Bool.{both_ways, not-true, false_from_ne_true, eqb-true, cases_Bool, and_right}
use Rattle.std.proofs.lemmas.Bool.Decides.{Decides-int_eq, same_from_decides}
use Rattle.std.proofs.lemmas.List.Elements.{All-weaker}
use Rattle.std.proofs.lemmas.List.Folds.{Any-from_list_any, list_any-from_Any, list_any_at}
use Rattle.std.proofs.lemmas.List.Sums.{get_or-le-sum_by}
use Rattle.lvl_sweep.specs.declared.edge.Edge.{Edge}
use Rattle.lvl_sweep.specs.inside.Edges.{net_left, IsInside}
use Rattle.lvl_sweep.specs.inside.Rows.{inside, far_of, Balanced}
use Rattle.lvl_sweep.proofs.Winds.{count_none, left_of_all}

pub none_of : {A : Type 0} (p : A → Bool) (xs : List A) → list_any p xs ≡ false → All (λ x. p x ≡ false) xs
none_of p xs h k d lt =
    false_from_ne_true (p (get_or xs k d)) (λ e. both_ways (list_any p xs) h (list_any_at p xs k d lt e))

zero_of : (r : ℕ) (z : ℤ) (es : List Edge) → All (λ e. (int_le e.x z && eqb e.ring r) ≡ false) es
    → net_left r z es ≡ pos 0
zero_of r z es h =
    let off : (a b c : Bool) → (a && b) ≡ false → (a && (b && c)) ≡ false = λ a b c e. grind arith in
    let ups : count_by (λ e. int_le e.x z && (eqb e.ring r && e.up)) es ≡ 0 =
    count_none (λ e. int_le e.x z && (eqb e.ring r && e.up)) es
    (All-weaker (λ e. (int_le e.x z && eqb e.ring r) ≡ false)
    (λ e. (int_le e.x z && (eqb e.ring r && e.up)) ≡ false) (λ e k. off (int_le e.x z) (eqb e.ring r) e.up k) es h)
    in
    let downs : count_by (λ e. int_le e.x z && (eqb e.ring r && not e.up)) es ≡ 0 =
    count_none (λ e. int_le e.x z && (eqb e.ring r && not e.up)) es
    (All-weaker (λ e. (int_le e.x z && eqb e.ring r) ≡ false)
    (λ e. (int_le e.x z && (eqb e.ring r && not e.up)) ≡ false) (λ e k. off (int_le e.x z) (eqb e.ring r) (not e.up)
    k) es h) in
    rw (ups, downs) refl

-- a ring that winds has an edge
has_edge : (r : ℕ) (z : ℤ) (es : List Edge) → net_left r z es ≢ pos 0 → Any (λ e. eqb e.ring r ≡ true) es
has_edge r z es h = elim (cases_Bool (list_any (λ e. eqb e.ring r) es)) [
  | inl some ↦ Any-from_list_any (λ e. eqb e.ring r) es some
  | inr none ↦
      absurd (h (zero_of r z es (All-weaker (λ e. eqb e.ring r ≡ false) (λ e. (int_le e.x z && eqb e.ring r) ≡ false)
      (λ e k. and_right (int_le e.x z) (eqb e.ring r) k) es (none_of (λ e. eqb e.ring r) es none))))
]

not_zero : (c : ℤ) → not (int_eq c (pos 0)) ≡ true → c ≢ pos 0
not_zero c h e = both_ways (int_eq c (pos 0)) (not-true (int_eq c (pos 0)) h) ((Decides-int_eq c (pos 0)).1 e)

turns : (c : ℤ) → c ≢ pos 0 → not (int_eq c (pos 0)) ≡ true
turns c h = elim (cases_Bool (int_eq c (pos 0))) [
  | inl e ↦ absurd (h ((Decides-int_eq c (pos 0)).0 e))
  | inr e ↦ rw e refl
]

pub inside_is : (es : List Edge) (z : ℤ) → IsTrue (inside es z) ↔ IsInside es z
unfolding inside
inside_is es z = (
  λ h.
      let f : Any (λ e. not (int_eq (net_left e.ring z es) (pos 0)) ≡ true) es =
      Any-from_list_any (λ e. not (int_eq (net_left e.ring z es) (pos 0))) es h in
      (f.1.ring, not_zero (net_left f.1.ring z es) f.4),
  λ g.
      let f : Any (λ e. eqb e.ring g.0 ≡ true) es = has_edge g.0 z es g.1 in
      let same : f.1.ring ≡ g.0 = eqb-true f.1.ring g.0 f.4 in
      list_any-from_Any (λ e. not (int_eq (net_left e.ring z es) (pos 0))) es
      (f.0, f.1, f.2, f.3, turns (net_left f.1.ring z es) (λ k. g.1 (rw same at k))),
)

pub inside_same : (es fs : List Edge) (z : ℤ) → IsInside es z ↔ IsInside fs z → inside es z ≡ inside fs z
inside_same es fs z both =
    same_from_decides {P = IsInside fs z} (inside es z) (inside fs z)
    (λ h. both.0 ((inside_is es z).0 h), λ h. (inside_is es z).1 (both.1 h)) (inside_is fs z)

pub each_within : (es : List Edge) → All (λ e. (unsigned_abs e.low + unsigned_abs e.x + unsigned_abs e.high) ≤ far_of
    es) es
unfolding far_of
each_within es k d lt = get_or-le-sum_by (λ e. unsigned_abs e.low + unsigned_abs e.x + unsigned_abs e.high) es k d lt

right_of_all : (far : ℕ) (z x : ℤ) → far < unsigned_abs z → unsigned_abs x ≤ far → pos 0 ≤ℤ z → x ≤ℤ z
right_of_all far z x h k l = omega (arith, ints)

left_of_all' : (far : ℕ) (z x : ℤ) → far < unsigned_abs z → unsigned_abs x ≤ far → z <ℤ pos 0 → int_le x z ≡ false
left_of_all' far z x h k l =
    let lt : z <ℤ x = omega (arith, ints) in
    grind (arith, ints)

-- no ring winds round what is left or right of all edges
pub inside_far : (es : List Edge) (z : ℤ) → Balanced es → far_of es < unsigned_abs z → inside es z ≡ false
inside_far es z balanced far = false_from_ne_true (inside es z) (λ h.
    let f : IsInside es z = (inside_is es z).0 h in
    by_lt_z z (pos 0)
    (λ lt. f.1 (zero_of f.0 z es (All-weaker
    (λ e. (unsigned_abs e.low + unsigned_abs e.x + unsigned_abs e.high) ≤ far_of es)
    (λ e. (int_le e.x z && eqb e.ring f.0) ≡ false) (λ e k.
    let left : int_le e.x z ≡ false = left_of_all' (far_of es) z e.x far (omega (arith, k)) lt in rw left refl) es
    (each_within es))))
    (λ ge. f.1 (left_of_all f.0 z es
    (All-weaker (λ e. (unsigned_abs e.low + unsigned_abs e.x + unsigned_abs e.high) ≤ far_of es) (λ e. e.x ≤ℤ z)
    (λ e k. right_of_all (far_of es) z e.x far (omega (arith, k)) ge) es (each_within es)) ∙ balanced f.0)))
