-- A set of squares has only one list of corners, and two sets with the same list are equal.
use Rattle.std.proofs.Common.{◌≡◌, ◌≢◌, ℕ, zero, suc, Bool, true, false, List, ℤ, pos, negsuc}
use Rattle.std.proofs.Common.{◌+ℤ◌, ◌-ℤ◌, ◌<ℤ◌, ◌↔◌, Contains, refl, sym, ◌∙◌, ap, subst, arith, inl, inr}
use Rattle.std.specs.Int.{int_min}
use Rattle.std.specs.Ordering.{int_eq}
use Rattle.std.proofs.lemmas.Int.{ints, clamps}
use Rattle.std.proofs.lemmas.Bool.{false_from_ne_true, cases_Bool}
use Rattle.std.proofs.lemmas.Bool.Decides.{Decides-int_eq, not_from_Decides, same_from_decides, Decides-like}
use Rattle.lvl_grid.specs.declared.point.Square.{Square}
use Rattle.lvl_corners.specs.declared.corner.Corner.{Corner}
use Rattle.lvl_corners.specs.Corners.{bit, change_at, ComesBefore, AreCorners, IsBounded, AreCornersOf}
use Rattle.lvl_corners.proofs.IntTests.{eq_is}
use Rattle.lvl_corners.proofs.Pairs.{one_order}

-- a function that is the same at each number and the next, and 0 below some number, is 0
still_by : (f : ℤ → ℤ) (low : ℤ) (n : ℕ) → ((z : ℤ) → f z ≡ f (z -ℤ pos 1)) → ((z : ℤ) → z <ℤ low → f z ≡ pos 0)
    → (z : ℤ)
    → z <ℤ (low +ℤ pos n) → f z ≡ pos 0
still_by f low zero step below z lt = below z (omega (arith, ints, lt))
still_by f low (suc n) step below z lt = step z ∙ still_by f low n step below (z -ℤ pos 1) (omega (arith, ints, lt))

reached : (low z d : ℤ) → d ≡ z -ℤ low → (n : ℕ) × (z <ℤ (low +ℤ pos n))
reached low z (pos k) e = (suc k, omega (arith, ints, e))
reached low z (negsuc k) e = (0, omega (arith, ints, e))

still : (f : ℤ → ℤ) (low : ℤ) → ((z : ℤ) → f z ≡ f (z -ℤ pos 1)) → ((z : ℤ) → z <ℤ low → f z ≡ pos 0) → (z : ℤ)
    → f z ≡ pos 0
still f low step below z =
    let far = reached low z (z -ℤ low) refl in
    still_by f low far.0 step below z far.1

-- a function that is 0 far to the left and far below, and whose change is 0 at all points, is 0
flat : (g : ℤ → ℤ → ℤ) (left bottom : ℤ)
    → ((x y : ℤ) → (g x y -ℤ g (x -ℤ pos 1) y) -ℤ (g x (y -ℤ pos 1) -ℤ g (x -ℤ pos 1) (y -ℤ pos 1)) ≡ pos 0)
    → ((x y : ℤ) → x <ℤ left → g x y ≡ pos 0) → ((x y : ℤ) → y <ℤ bottom → g x y ≡ pos 0) → (x y : ℤ) → g x y ≡ pos 0
flat g left bottom changes far_left far_below x y =
    let row : (u : ℤ) → g u y -ℤ g (u -ℤ pos 1) y ≡ pos 0 = λ u. still (λ v. g u v -ℤ g (u -ℤ pos 1) v) bottom
    (λ v. let none = changes u v in omega (arith, ints, none))
    (λ v lt.
    let a = far_below u v lt in
    let b = far_below (u -ℤ pos 1) v lt in
    omega (arith, ints, a, b)) y in
    still (λ u. g u y) left (λ u. let none = row u in omega (arith, ints, none)) (λ u lt. far_left u y lt) x

bit_same : (a b : Bool) → bit a -ℤ bit b ≡ pos 0 → a ≡ b
bit_same true true h = refl
bit_same true false h = absurd (omega (arith, ints, h))
bit_same false true h = absurd (omega (arith, ints, h))
bit_same false false h = refl

none_left : (c : Square → Bool) (b : IsBounded c) (x y : ℤ) → x <ℤ b.left → bit (c (record { x = x; y = y })) ≡ pos 0
none_left c b x y lt =
    let none : c (record { x = x; y = y }) ≡ false = false_from_ne_true (c (record { x = x; y = y })) (λ t.
    let low = (b.each (record { x = x; y = y }) t).0 in absurd (omega (arith, ints, lt, low))) in
    rw none refl

none_below : (c : Square → Bool) (b : IsBounded c) (x y : ℤ) → y <ℤ b.bottom → bit (c (record { x = x; y = y })) ≡ pos 0
none_below c b x y lt =
    let none : c (record { x = x; y = y }) ≡ false = false_from_ne_true (c (record { x = x; y = y })) (λ t.
    let low = (b.each (record { x = x; y = y }) t).1 in absurd (omega (arith, ints, lt, low))) in
    rw none refl

-- sets of squares with the same changes are equal
pub same_by_changes : (c e : Square → Bool) → IsBounded c → IsBounded e
    → ((x y : ℤ) → change_at c x y ≡ change_at e x y) → (s : Square) → c s ≡ e s
same_by_changes c e b d changes s =
    let at : (Square → Bool) → ℤ → ℤ → ℤ = λ f u v. bit (f (record { x = u; y = v })) in
    bit_same (c s) (e s) (flat (λ u v. at c u v -ℤ at e u v) (int_min b.left d.left) (int_min b.bottom d.bottom)
    (λ u v. let same = changes u v in omega (arith, ints, same))
    (λ u v lt.
    let p = none_left c b u v (omega (arith, ints, clamps, lt)) in
    let q = none_left e d u v (omega (arith, ints, clamps, lt)) in
    omega (arith, ints, p, q))
    (λ u v lt.
    let p = none_below c b u v (omega (arith, ints, clamps, lt)) in
    let q = none_below e d u v (omega (arith, ints, clamps, lt)) in
    omega (arith, ints, p, q)) s.x s.y)

-- sets of squares with the same list of corners have the same changes
same_changes : (c e : Square → Bool) (ks : List Corner) → AreCorners c ks → AreCorners e ks → (x y : ℤ)
    → change_at c x y ≡ change_at e x y
same_changes c e ks h k x y =
    let at : ℤ → Corner = λ v. record { x = x; y = y; change = v } in
    let ours : ℤ = change_at c x y in
    let theirs : ℤ = change_at e x y in
    let some : (v : ℤ) → int_eq v (pos 0) ≡ false → v ≢ pos 0 = λ v f.
    not_from_Decides (int_eq v (pos 0)) (Decides-int_eq v (pos 0)) f in
    elim (cases_Bool (int_eq ours (pos 0))) [
      | inr f ↦ ((k.each (at ours)).0 ((h.each (at ours)).1 (some ours f, refl))).1
      | inl t ↦ elim (cases_Bool (int_eq theirs (pos 0))) [
        | inl u ↦ eq_is ours (pos 0) t ∙ sym (eq_is theirs (pos 0) u)
        | inr f ↦ sym ((h.each (at theirs)).0 ((k.each (at theirs)).1 (some theirs f, refl))).1
      ]
    ]

not_both : (k l : Corner) → ComesBefore k l → ComesBefore l k → ⊥
not_both k l h j = elim h [
  | inl left ↦ elim j [
    | inl right ↦ absurd (omega (arith, ints, left, right))
    | inr above ↦ let same = above.0 in absurd (omega (arith, ints, left, same))
  ]
  | inr below ↦ elim j [
    | inl right ↦ let same = below.0 in absurd (omega (arith, ints, right, same))
    | inr above ↦ let low = below.1 in let high = above.1 in absurd (omega (arith, ints, low, high))
  ]
]

same_at : (c e : Square → Bool) → ((s : Square) → c s ≡ e s) → (x y : ℤ) → change_at c x y ≡ change_at e x y
same_at c e same x y =
    let at : (u v : ℤ) → bit (c (record { x = u; y = v })) ≡ bit (e (record { x = u; y = v })) =
    λ u v. ap bit (same (record { x = u; y = v })) in
    rw (at x y, at (x -ℤ pos 1) y, at x (y -ℤ pos 1), at (x -ℤ pos 1) (y -ℤ pos 1)) refl

moved : (c e : Square → Bool) (ks ls : List Corner) → AreCorners c ks → AreCorners e ls
    → ((x y : ℤ) → change_at c x y ≡ change_at e x y) → (m : Corner) → Contains ks m → Contains ls m
moved c e ks ls h k same m there =
    let both = (h.each m).0 there in
    (k.each m).1 (both.0, both.1 ∙ same m.x m.y)

same_tests : (P Q : Square → Type 0) (ks ls : List Corner) (h : AreCornersOf P ks) (k : AreCornersOf Q ls)
    → ((s : Square) → P s ↔ Q s) → (s : Square) → h.covered s ≡ k.covered s
same_tests P Q ks ls h k same s =
    same_from_decides (h.covered s) (k.covered s)
    (Decides-like (h.covered s) (same s).0 (same s).1 (h.is_covered s)) (k.is_covered s)

-- sets with the same squares have the same list
pub one_list : (P Q : Square → Type 0) (ks ls : List Corner) → AreCornersOf P ks → AreCornersOf Q ls
    → ((s : Square) → P s ↔ Q s) → ks ≡ ls
one_list P Q ks ls h k same =
    let changes = same_at h.covered k.covered (same_tests P Q ks ls h k same) in
    one_order ComesBefore not_both ks ls h.corners_are.rising k.corners_are.rising
    (moved h.covered k.covered ks ls h.corners_are k.corners_are changes)
    (moved k.covered h.covered ls ks k.corners_are h.corners_are (λ x y. sym (changes x y)))

-- sets with the same list have the same squares
pub same_squares : (P Q : Square → Type 0) (ks ls : List Corner) → AreCornersOf P ks → AreCornersOf Q ls → ks ≡ ls
    → (s : Square) → P s ↔ Q s
same_squares P Q ks ls h k same s =
    let changes = same_changes h.covered k.covered ls (subst (AreCorners h.covered) same h.corners_are) k.corners_are in
    let test : h.covered s ≡ k.covered s = same_by_changes h.covered k.covered h.bounded k.bounded changes s in (
      λ p. (k.is_covered s).0 (sym test ∙ (h.is_covered s).1 p),
      λ q. (h.is_covered s).0 (test ∙ (k.is_covered s).1 q),
    )
