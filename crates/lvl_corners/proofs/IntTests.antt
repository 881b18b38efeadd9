-- Comparisons of integers.
use Rattle.std.proofs.Common.{◌≡◌, Bool, true, false, ◌&&◌, ◌||◌, cond, ℤ, pos, ◌+ℤ◌, ◌-ℤ◌, ◌<ℤ◌, ◌≤ℤ◌, int_lt, int_le}
use Rattle.std.proofs.Common.{refl, sym, arith}
use Rattle.std.specs.Ordering.{int_eq}
use Rattle.std.proofs.lemmas.Int.{ints, by_lt_z}
use Rattle.std.proofs.lemmas.Bool.{false_from_ne_true}
use Rattle.std.proofs.lemmas.Bool.Decides.{Decides-int_eq}
use Rattle.lvl_corners.specs.Corners.{bit}

pub eq_yes : (a b : ℤ) → a ≡ b → int_eq a b ≡ true
eq_yes a b e = (Decides-int_eq a b).1 e

pub eq_no : (a b : ℤ) → (a ≡ b → ⊥) → int_eq a b ≡ false
eq_no a b h = false_from_ne_true (int_eq a b) (λ t. h ((Decides-int_eq a b).0 t))

pub eq_is : (a b : ℤ) → int_eq a b ≡ true → a ≡ b
eq_is a b h = (Decides-int_eq a b).0 h

-- less, equal, or greater
pub by_order : {P : Type 0} (a b : ℤ) → (a <ℤ b → P) → (a ≡ b → P) → (b <ℤ a → P) → P
by_order a b less same more =
    by_lt_z a b less (λ ge. by_lt_z b a more (λ le. same (omega (arith, ints, ge, le))))

pub ne_below : (a b : ℤ) → a <ℤ b → int_eq a b ≡ false
ne_below a b h = eq_no a b (λ e. absurd (omega (arith, ints, h, e)))

pub ne_above : (a b : ℤ) → b <ℤ a → int_eq a b ≡ false
ne_above a b h = eq_no a b (λ e. absurd (omega (arith, ints, h, e)))

-- the test of being from one number up to another changes at both of these, and nowhere else
pub ends_change : (d y a b : ℤ) → a <ℤ b
    → cond (int_eq a y) d (pos 0) -ℤ cond (int_eq b y) d (pos 0)
    ≡ cond (int_le a y && int_lt y b) d (pos 0) -ℤ cond (int_le a (y -ℤ pos 1) && int_lt (y -ℤ pos 1) b) d (pos 0)
ends_change d y a b full =
    by_order y a
    (λ lt.
    let e : int_eq a y ≡ false = ne_above a y lt in
    let below : y <ℤ b = omega (arith, ints, lt, full) in
    let f : int_eq b y ≡ false = ne_above b y below in
    let g : int_le a y ≡ false = grind (arith, ints) in
    let before : (y -ℤ pos 1) <ℤ a = omega (arith, ints, lt) in
    let h : int_le a (y -ℤ pos 1) ≡ false = grind (arith, ints) in
    rw (e, f, g, h) refl)
    (λ same.
    let e : int_eq a y ≡ true = eq_yes a y (sym same) in
    let below : y <ℤ b = omega (arith, ints, same, full) in
    let f : int_eq b y ≡ false = ne_above b y below in
    let reached : a ≤ℤ y = omega (arith, ints, same) in
    let g : int_le a y ≡ true = grind (arith, ints) in
    let i : int_lt y b ≡ true = grind (arith, ints) in
    let before : (y -ℤ pos 1) <ℤ a = omega (arith, ints, same) in
    let h : int_le a (y -ℤ pos 1) ≡ false = grind (arith, ints) in
    rw (e, f, g, i, h) refl)
    (λ past. by_order y b
    (λ below.
    let e : int_eq a y ≡ false = ne_below a y past in
    let f : int_eq b y ≡ false = ne_above b y below in
    let reached : a ≤ℤ y = omega (arith, ints, past) in
    let g : int_le a y ≡ true = grind (arith, ints) in
    let i : int_lt y b ≡ true = grind (arith, ints) in
    let from : a ≤ℤ (y -ℤ pos 1) = omega (arith, ints, past) in
    let to : (y -ℤ pos 1) <ℤ b = omega (arith, ints, below) in
    let h : int_le a (y -ℤ pos 1) ≡ true = grind (arith, ints) in
    let j : int_lt (y -ℤ pos 1) b ≡ true = grind (arith, ints) in
    rw (e, f, g, i, h, j) (omega (arith, ints)))
    (λ same.
    let e : int_eq a y ≡ false = ne_below a y past in
    let f : int_eq b y ≡ true = eq_yes b y (sym same) in
    let reached : a ≤ℤ y = omega (arith, ints, past) in
    let g : int_le a y ≡ true = grind (arith, ints) in
    let over : b ≤ℤ y = omega (arith, ints, same) in
    let i : int_lt y b ≡ false = grind (arith, ints) in
    let from : a ≤ℤ (y -ℤ pos 1) = omega (arith, ints, past) in
    let to : (y -ℤ pos 1) <ℤ b = omega (arith, ints, same) in
    let h : int_le a (y -ℤ pos 1) ≡ true = grind (arith, ints) in
    let j : int_lt (y -ℤ pos 1) b ≡ true = grind (arith, ints) in
    rw (e, f, g, i, h, j) refl)
    (λ above.
    let e : int_eq a y ≡ false = ne_below a y past in
    let f : int_eq b y ≡ false = ne_below b y above in
    let reached : a ≤ℤ y = omega (arith, ints, past) in
    let g : int_le a y ≡ true = grind (arith, ints) in
    let over : b ≤ℤ y = omega (arith, ints, above) in
    let i : int_lt y b ≡ false = grind (arith, ints) in
    let from : a ≤ℤ (y -ℤ pos 1) = omega (arith, ints, past) in
    let to : b ≤ℤ (y -ℤ pos 1) = omega (arith, ints, above) in
    let h : int_le a (y -ℤ pos 1) ≡ true = grind (arith, ints) in
    let j : int_lt (y -ℤ pos 1) b ≡ false = grind (arith, ints) in
    rw (e, f, g, i, h, j) refl))

-- two tests that aren't both true
pub either_bit : (p q : Bool) → (p ≡ true → q ≡ false) → bit (p || q) ≡ bit p +ℤ bit q
either_bit true q h = rw (h refl) refl
either_bit false true h = refl
either_bit false false h = refl
