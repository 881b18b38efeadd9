-- Sums of the marks of rows: what two rows have in common cancels.
use Rattle.std.proofs.Common.{◌≡◌, ℕ, ◌+◌, ◌<◌, List, drop, get_or, length, ℤ, pos, ◌+ℤ◌, ◌-ℤ◌, Bool, true, false}
use Rattle.std.proofs.Common.{cond, ap, arith}
use Rattle.std.proofs.lemmas.Int.{ints}
use Rattle.std.proofs.lemmas.List.{drop_more}
use Rattle.lvl_corners.specs.inside.Marks.{interval_step, row_step}

-- the intervals of a row that are still to come
pub row_next : (x : ℤ) (is : List (ℤ × ℤ)) (i : ℕ) (d : ℤ × ℤ) → i < length is
    → row_step x (drop i is) ≡ row_step x (drop (i + 1) is) +ℤ interval_step x (get_or is i d)
row_next x is i d lt = ap (row_step x) (drop_more is i d lt)

-- both ends of an interval change
pub changed : (t : Bool) (old mid new a b c d : ℤ) → mid ≡ old +ℤ cond t (a -ℤ c) (pos 0)
    → new ≡ mid +ℤ cond t (d -ℤ b) (pos 0) → new ≡ old +ℤ cond t ((a -ℤ b) -ℤ (c -ℤ d)) (pos 0)
changed true old mid new a b c d h k = omega (arith, ints, h, k)
changed false old mid new a b c d h k = omega (arith, ints, h, k)

-- the first intervals of two rows
pub both_next : (t : Bool) (old new total a b ours theirs ours' theirs' : ℤ) → theirs ≡ theirs' +ℤ a → ours ≡ ours' +ℤ b
    → new ≡ old +ℤ cond t (a -ℤ b) (pos 0) → old +ℤ cond t (theirs -ℤ ours) (pos 0) ≡ total
    → new +ℤ cond t (theirs' -ℤ ours') (pos 0) ≡ total
both_next true old new total a b ours theirs ours' theirs' e f h k = omega (arith, ints, e, f, h, k)
both_next false old new total a b ours theirs ours' theirs' e f h k = omega (arith, ints, h, k)

-- the first interval of the row that ends
pub ours_next : (t : Bool) (old new total b ours theirs ours' : ℤ) → ours ≡ ours' +ℤ b
    → new ≡ old +ℤ cond t (pos 0 -ℤ b) (pos 0) → old +ℤ cond t (theirs -ℤ ours) (pos 0) ≡ total
    → new +ℤ cond t (theirs -ℤ ours') (pos 0) ≡ total
ours_next true old new total b ours theirs ours' f h k = omega (arith, ints, f, h, k)
ours_next false old new total b ours theirs ours' f h k = omega (arith, ints, h, k)

-- that of the row that begins
pub theirs_next : (t : Bool) (old new total a ours theirs theirs' : ℤ) → theirs ≡ theirs' +ℤ a
    → new ≡ old +ℤ cond t a (pos 0) → old +ℤ cond t (theirs -ℤ ours) (pos 0) ≡ total
    → new +ℤ cond t (theirs' -ℤ ours) (pos 0) ≡ total
theirs_next true old new total a ours theirs theirs' e h k = omega (arith, ints, e, h, k)
theirs_next false old new total a ours theirs theirs' e h k = omega (arith, ints, h, k)

-- what is left of both rows
pub rest_between : (t : Bool) (old mid new b a total : ℤ) → mid ≡ old +ℤ cond t (pos 0 -ℤ b) (pos 0)
    → new ≡ mid +ℤ cond t a (pos 0) → old +ℤ cond t (a -ℤ b) (pos 0) ≡ total → new ≡ total
rest_between true old mid new b a total h k e = omega (arith, ints, h, k, e)
rest_between false old mid new b a total h k e = omega (arith, ints, h, k, e)

-- a row that ends at the ordinate at which another begins
pub touching : (t : Bool) (old new b a : ℤ) → new ≡ old +ℤ cond t (a -ℤ b) (pos 0)
    → new ≡ (old +ℤ cond t (pos 0 -ℤ b) (pos 0)) +ℤ cond t a (pos 0)
touching true old new b a h = omega (arith, ints, h)
touching false old new b a h = omega (arith, ints, h)

-- a band is pushed, and then the row where it ends is still to come
pub held_back : (t : Bool) (a before new all : ℤ) → new ≡ before +ℤ all
    → new +ℤ cond t (pos 0 -ℤ a) (pos 0) ≡ before +ℤ (all -ℤ cond t a (pos 0))
held_back true a before new all h = omega (arith, ints, h)
held_back false a before new all h = omega (arith, ints, h)

-- at the start there are no marks, and no row has ended
pub started : (n b : ℤ) (t : Bool) → n ≡ pos 0 → (n +ℤ cond t (pos 0 -ℤ pos 0) (pos 0)) +ℤ b ≡ b
started n b true e = omega (arith, ints, e)
started n b false e = omega (arith, ints, e)
