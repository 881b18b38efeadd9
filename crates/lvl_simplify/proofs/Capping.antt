-- Windings that are clamped to bounds: which turns are kept, and why that is enough.
use Rattle.std.proofs.Common.{◌≡◌, ◌+◌, ℕ, ℤ, pos, ◌-ℤ◌, ◌+ℤ◌, ◌≤ℤ◌, Bool, true, false, cond}
use Rattle.std.proofs.Common.{List, [], ◌∷◌, ◌++◌, length, ◌↔◌, sym, ◌∙◌, refl, arith}
use Rattle.std.proofs.Common.{int_lt, int_le, negsuc, suc, ◌≢◌}
use Rattle.std.proofs.lemmas.Bool.{false≢true}
use Rattle.std.proofs.lemmas.Int.{ints, clamps, by_lt_z}
use Rattle.std.proofs.lemmas.List.Sums.{sum_by_push}
use Rattle.lvl_grid.specs.declared.point.Square.{Square}
use Rattle.lvl_simplify.specs.declared.redraw.Upright.{Upright}
use Rattle.lvl_simplify.specs.declared.rows.Turn.{Turn}
use Rattle.lvl_simplify.specs.Rows.{change}
use Rattle.lvl_simplify.specs.Redraw.{count_to, if_right, winds, winding_by, within}

-- one more end
pub begin_pushed : (y : ℤ) (begins more : List ℤ) (ends : ℕ) (t : Turn) → t.more ≡ true → more ≡ begins ++ t.y ∷ []
    → pos (count_to y more) -ℤ pos ends
    ≡ (pos (count_to y begins) -ℤ pos ends) +ℤ cond (int_le t.y y) (change t) (pos 0)
begin_pushed y begins more ends t up e =
    rw up (numbers (int_le t.y y) (count_to y begins) (count_to y more) ends
    (rw e (sum_by_push (λ z. cond (int_le z y) 1 0) begins t.y)))
  where
    numbers : (b : Bool) (old new ends : ℕ) → new ≡ old + cond b 1 0
        → pos new -ℤ pos ends ≡ (pos old -ℤ pos ends) +ℤ cond b (pos 1) (pos 0)
    numbers true old new ends e = omega (arith, ints, e)
    numbers false old new ends e = omega (arith, ints, e)

pub end_pushed : (y : ℤ) (begins : ℕ) (ends more : List ℤ) (t : Turn) → t.more ≡ false → more ≡ ends ++ t.y ∷ []
    → pos begins -ℤ pos (count_to y more)
    ≡ (pos begins -ℤ pos (count_to y ends)) +ℤ cond (int_le t.y y) (change t) (pos 0)
end_pushed y begins ends more t down e =
    rw down (numbers (int_le t.y y) begins (count_to y ends) (count_to y more)
    (rw e (sum_by_push (λ z. cond (int_le z y) 1 0) ends t.y)))
  where
    numbers : (b : Bool) (begins old new : ℕ) → new ≡ old + cond b 1 0
        → pos begins -ℤ pos new ≡ (pos begins -ℤ pos old) +ℤ cond b (negsuc 0) (pos 0)
    numbers true begins old new e = omega (arith, ints, e)
    numbers false begins old new e = omega (arith, ints, e)

-- a turn changes the windings by one
pub change_bounds : (t : Turn) → (negsuc 0 ≤ℤ change t) × (change t ≤ℤ pos 1)
change_bounds t = one t.more
  where
    one : (up : Bool) → (negsuc 0 ≤ℤ cond up (pos 1) (negsuc 0)) × (cond up (pos 1) (negsuc 0) ≤ℤ pos 1)
    one true = (omega (arith, ints), omega (arith, ints))
    one false = (omega (arith, ints), omega (arith, ints))

pub zero_within : (least most : ℤ) → least ≤ℤ pos 0 → pos 0 ≤ℤ most → pos 0 ≡ within least most (pos 0)
zero_within least most a b = omega (arith, ints, clamps, a, b)

-- both numbers are within the bounds
abbrev pub BothWithin : ℤ → ℤ → ℤ → ℤ → Type 0
BothWithin least most a b = ((least ≤ℤ a) × (a ≤ℤ most)) × (least ≤ℤ b) × (b ≤ℤ most)

kept_change : (least most old new before after windings step counted : ℤ) (kept : Bool)
    → (kept ≡ true ↔ BothWithin least most windings counted) → negsuc 0 ≤ℤ step → step ≤ℤ pos 1 → least ≤ℤ most
    → after ≡ before +ℤ step → new ≡ old +ℤ cond kept step (pos 0) → before ≡ windings
    → counted ≡ windings +ℤ step → old ≡ within least most before → new ≡ within least most after
kept_change least most old new before after windings step counted true test low high order more pushed above next so =
    let k = test.0 refl in
    omega (arith, ints, clamps, low, high, order, more, pushed, above, next, so, k.0.0, k.0.1, k.1, k.2)
kept_change least most old new before after windings step counted false test low high order more pushed above next so =
    by_lt_z windings least
    (λ out. omega (arith, ints, clamps, low, high, order, more, pushed, above, next, so, out))
    (λ a. by_lt_z most windings
    (λ out. omega (arith, ints, clamps, low, high, order, more, pushed, above, next, so, out))
    (λ b. by_lt_z counted least
    (λ out. omega (arith, ints, clamps, low, high, order, more, pushed, above, next, so, out))
    (λ d. by_lt_z most counted
    (λ out. omega (arith, ints, clamps, low, high, order, more, pushed, above, next, so, out))
    (λ e. absurd (false≢true (test.1 ((a, b), d, e)))))))

same_within : (least most old new before after : ℤ) → new ≡ old → after ≡ before → old ≡ within least most before
    → new ≡ within least most after
same_within least most old new before after e f so = rw (e, f) so

-- a turn is kept if the windings before and after it are within the bounds
pub kept_step : (y high least most old new before after windings step counted : ℤ) (kept : Bool)
    → (kept ≡ true ↔ BothWithin least most windings counted) → negsuc 0 ≤ℤ step → step ≤ℤ pos 1 → least ≤ℤ most
    → after ≡ before +ℤ cond (int_le high y) step (pos 0)
    → new ≡ old +ℤ cond kept (cond (int_le high y) step (pos 0)) (pos 0) → (high ≤ℤ y → before ≡ windings)
    → counted ≡ windings +ℤ step → old ≡ within least most before → new ≡ within least most after
kept_step y high least most old new before after windings step counted kept test low top order more pushed above k so =
    by_lt_z y high
    (λ lt. let out : int_le high y ≡ false = grind (arith, ints) in
    same_within least most old new before after (none_kept kept old new (rw out at pushed))
    (none_kept true before after (rw out at more)) so)
    (λ ge. let in_row : int_le high y ≡ true = grind (arith, ints) in
    kept_change least most old new before after windings step counted kept test low top order (rw in_row at more)
    (rw in_row at pushed) (above ge) k so)
  where
    none_kept : (k : Bool) (old new : ℤ) → new ≡ old +ℤ cond k (pos 0) (pos 0) → new ≡ old
    none_kept true old new e = omega (arith, ints, e)
    none_kept false old new e = omega (arith, ints, e)

pub kept_pushed : (kept : Bool) (old new edge : ℤ) → kept ≡ true → new ≡ old +ℤ edge
    → new ≡ old +ℤ cond kept edge (pos 0)
kept_pushed kept old new edge k e = rw k e

pub left_out : (kept : Bool) (old edge : ℤ) → kept ≡ false → old ≡ old +ℤ cond kept edge (pos 0)
left_out kept old edge k = rw k (same old)
  where
    same : (z : ℤ) → z ≡ z +ℤ pos 0
    same z = omega (arith, ints)

unit_bounds : (a b c : Bool) → (negsuc 0 ≤ℤ cond a (pos (cond b 1 0) -ℤ pos (cond c 1 0)) (pos 0))
    × (cond a (pos (cond b 1 0) -ℤ pos (cond c 1 0)) (pos 0) ≤ℤ pos 1)
unit_bounds true true true = (omega (arith, ints), omega (arith, ints))
unit_bounds true true false = (omega (arith, ints), omega (arith, ints))
unit_bounds true false true = (omega (arith, ints), omega (arith, ints))
unit_bounds true false false = (omega (arith, ints), omega (arith, ints))
unit_bounds false b c = (omega (arith, ints), omega (arith, ints))

-- the winding by n edges is from -n to n
pub winding_bounds : (s : Square) (us : List Upright)
    → ((pos 0 -ℤ pos (length us)) ≤ℤ winding_by s us) × (winding_by s us ≤ℤ pos (length us))
winding_bounds s [] = (omega (arith, ints), omega (arith, ints))
winding_bounds s (u ∷ us) =
    let one = unit_bounds (int_lt s.x u.x) (int_le u.from s.y) (int_le u.to s.y) in
    let all = winding_bounds s us in
    numbers (winds s u.x u.from u.to) (winding_by s us) (length us) one.0 one.1 all.0 all.1
  where
    numbers : (w all : ℤ) (n : ℕ) → negsuc 0 ≤ℤ w → w ≤ℤ pos 1 → (pos 0 -ℤ pos n) ≤ℤ all → all ≤ℤ pos n
        → ((pos 0 -ℤ pos (suc n)) ≤ℤ (w +ℤ all)) × ((w +ℤ all) ≤ℤ pos (suc n))
    numbers w all n a b c d = (omega (arith, ints, a, b, c, d), omega (arith, ints, a, b, c, d))

-- clamping to bounds greater than the winding that the other edges can have changes no covered square
pub within_enough : (a : Bool) (inner others least most : ℤ) (n : ℕ) → (pos 0 -ℤ pos n) ≤ℤ inner → inner ≤ℤ pos n
    → most ≡ pos n +ℤ pos 1 → least ≡ negsuc 0 -ℤ pos n
    → ((inner +ℤ cond a (within least most others) (pos 0)) ≢ pos 0) ↔ ((inner +ℤ cond a others (pos 0)) ≢ pos 0)
within_enough true inner others least most n a b c d = (
  λ h e. h (omega (arith, ints, clamps, a, b, c, d, e)),
  λ h e. h (omega (arith, ints, clamps, a, b, c, d, e)),
)
within_enough false inner others least most n a b c d = (λ h e. h e, λ h e. h e)

pub winds_alike : {drawn uprights edges ring : ℤ} → drawn ≡ uprights → (uprights ≢ pos 0) ↔ (edges ≢ pos 0)
    → edges ≡ ring → (drawn ≢ pos 0) ↔ (ring ≢ pos 0)
winds_alike e h f = (λ n z. h.0 (λ u. n (e ∙ u)) (f ∙ z), λ n z. h.1 (λ u. n (sym f ∙ u)) (sym e ∙ z))

-- so edges at the border with clamped windings cover the same squares
pub enough_edges : (s : Square) (right least most : ℤ) (us inner : List Upright) (ends turns : ℤ)
    → winding_by s us ≡ winding_by s inner +ℤ if_right s right ends → ends ≡ within least most turns
    → most ≡ pos (length inner) +ℤ pos 1 → least ≡ negsuc 0 -ℤ pos (length inner)
    → (winding_by s us ≢ pos 0) ↔ ((winding_by s inner +ℤ if_right s right turns) ≢ pos 0)
enough_edges s right least most us inner ends turns e f g h =
    rw (e, f)
    (within_enough (int_lt s.x right) (winding_by s inner) turns least most (length inner) (winding_bounds s inner).0
    (winding_bounds s inner).1 g h)
