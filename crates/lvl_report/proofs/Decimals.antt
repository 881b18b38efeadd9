-- The digits of a number of millionths.
use Rattle.std.proofs.Common.{◌≡◌, ◌≢◌, ℕ, zero, suc, ◌+◌, ◌-◌, ◌*◌, ◌/◌, ◌%◌, ◌^◌, ◌<◌}
use Rattle.std.proofs.Common.{List, [], ◌∷◌, ◌++◌, refl, sym, ap, ◌∙◌, subst, arith, append_assoc, lit<, rules}
use Rattle.std.proofs.Math.Nat.{one-le-pow, div-lt_iff_lt-mul, mod-lt}
use native.Mathlib.Nat.{pow-succ'}
use Rattle.lvl_report.specs.Steps.{decimals}

some_power : (k : ℕ) → 0 < 10 ^ k
some_power k = one-le-pow k 10 (lit< tt)

-- a number below a power of ten, divided by the next lower power
pub parts_by : (k r : ℕ) → r < 10 ^ suc k → (0 < 10 ^ k) × ((r / 10 ^ k < 10) × (r % 10 ^ k < 10 ^ k))
parts_by k r less =
    let below : r < 10 * 10 ^ k = subst (λ n. r < n) (pow-succ' 10 k) less in
    (some_power k, ((div-lt_iff_lt-mul (some_power k)).1 below, mod-lt r (some_power k)))

pub parts : (k r scale : ℕ) → k ≢ 0 → r < 10 ^ k → scale ≡ 10 ^ (k - 1)
    → (0 < scale) × ((r / scale < 10) × (r % scale < 10 ^ (k - 1)))
parts zero r scale some less is = absurd (some refl)
parts (suc k) r scale some less is =
    let back : k ≡ suc k - 1 = omega arith in
    subst (λ s. (0 < s) × ((r / s < 10) × (r % s < 10 ^ (suc k - 1)))) (sym is)
    (subst (λ i. (0 < 10 ^ i) × ((r / 10 ^ i < 10) × (r % 10 ^ i < 10 ^ i))) back (parts_by k r less))

some_digits : (k r : ℕ) → r ≢ 0 → decimals (suc k) r ≡ (48 + r / 10 ^ k) ∷ decimals k (r % 10 ^ k)
some_digits k r some = search (rules, some)

-- the next digit, and those after it
pub next_digit : (k r scale : ℕ) (old pushed : List ℕ) → k ≢ 0 → r ≢ 0 → scale ≡ 10 ^ (k - 1)
    → pushed ≡ old ++ (48 + r / scale) ∷ [] → pushed ++ decimals (k - 1) (r % scale) ≡ old ++ decimals k r
next_digit zero r scale old pushed some rest is by = absurd (some refl)
next_digit (suc k) r scale old pushed some rest is by =
    let pred : suc k - 1 ≡ k = omega arith in
    let power : scale ≡ 10 ^ k = is ∙ ap (λ i. 10 ^ i) pred in
    ap (λ l. l ++ decimals (suc k - 1) (r % scale)) by
    ∙ append_assoc old ((48 + r / scale) ∷ []) (decimals (suc k - 1) (r % scale))
    ∙ ap (λ i. old ++ (48 + r / scale) ∷ decimals i (r % scale)) pred
    ∙ ap (λ s. old ++ (48 + r / s) ∷ decimals k (r % s)) power ∙ ap (λ l. old ++ l) (sym (some_digits k r rest))
