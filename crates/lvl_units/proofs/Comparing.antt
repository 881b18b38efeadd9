-- Two fractions, compared by their whole parts and then by what is left.
use Rattle.std.proofs.Common.{◌≡◌, ◌≢◌, ℕ, ◌+◌, ◌*◌, ◌/◌, ◌%◌, ◌<◌, ◌≤◌, ◌↔◌, ◌⊎◌, inl, inr, zero, suc, refl, sym, ap, ◌∙◌, arith, ⊎_elim}
use Rattle.std.proofs.Math.Nat.{mul-le-mul_left}

zero_or_more : (n : ℕ) → (n ≡ 0) ⊎ (0 < n)
zero_or_more zero = inl refl
zero_or_more (suc n) = inr (omega arith)

order : (p q : ℕ) → (p < q) ⊎ ((p ≡ q) ⊎ (q < p))
order zero zero = inr (inl refl)
order zero (suc q) = inl (omega arith)
order (suc p) zero = inr (inr (omega arith))
order (suc p) (suc q) =
    ⊎_elim (λ h. inl (omega (arith, h))) (λ h. ⊎_elim (λ e. inr (inl (ap suc e))) (λ k. inr (inr (omega (arith, k)))) h)
    (order p q)

-- a fraction with a greater whole part is greater
pub greater_whole : (a b c d q r p l : ℕ) → a ≡ b * q + r → c ≡ d * p + l → l < d → 0 < b → p < q → c * b < a * d
greater_whole a b c d q r p l first second rest some less =
    let x : c * b ≡ (d * p + l) * b = ap (λ n. n * b) second in
    let y : a * d ≡ (b * q + r) * d = ap (λ n. n * d) first in
    let u : b * (l + 1) ≤ b * d = mul-le-mul_left b (omega (arith, rest)) in
    let v : (b * d) * (p + 1) ≤ (b * d) * q = mul-le-mul_left (b * d) (omega (arith, less)) in
    omega (arith, x, y, u, v, some)

-- with equal whole parts, what is left decides
pub greater_rest : (a b c d q r l : ℕ) → a ≡ b * q + r → c ≡ d * q + l → (c * b < a * d) ↔ (l * b < r * d)
greater_rest a b c d q r l first second =
    let x : c * b ≡ (d * q + l) * b = ap (λ n. n * b) second in
    let y : a * d ≡ (b * q + r) * d = ap (λ n. n * d) first in
    (λ h. omega (arith, x, y, h), λ h. omega (arith, x, y, h))

less_or_more : (p q : ℕ) → p ≢ q → (p < q) ⊎ (q < p)
less_or_more p q apart =
    ⊎_elim (λ h. inl h) (λ h. ⊎_elim (λ e. absurd (apart e)) (λ k. inr k) h) (order p q)

-- if their whole parts aren't equal, these decide
pub by_whole : (a b c d : ℕ) → 0 < b → 0 < d → a / b ≢ c / d → (c / d < a / b) ↔ (c * b < a * d)
by_whole a b c d first second apart =
    let x : a ≡ b * (a / b) + a % b = omega (arith, first) in
    let y : c ≡ d * (c / d) + c % d = omega (arith, second) in
    let u : c % d < d = omega (arith, second) in
    let v : a % b < b = omega (arith, first) in (
      λ less. greater_whole a b c d (a / b) (a % b) (c / d) (c % d) x y u first less,
      λ more. ⊎_elim (λ k.
          let z = greater_whole c d a b (c / d) (c % d) (a / b) (a % b) y x v second k in absurd (omega (arith, z, more)))
          (λ k. k) (less_or_more (a / b) (c / d) apart),
    )

-- else what is left does
pub by_rest : (a b c d : ℕ) → 0 < b → 0 < d → a / b ≡ c / d → (c * b < a * d) ↔ ((c % d) * b < (a % b) * d)
by_rest a b c d first second same =
    let x : a ≡ b * (a / b) + a % b = omega (arith, first) in
    let y : c ≡ d * (c / d) + c % d = omega (arith, second) in
    let z : c ≡ d * (a / b) + c % d = y ∙ ap (λ n. d * n + c % d) (sym same) in
    greater_rest a b c d (a / b) (a % b) (c % d) x z

-- if nothing is left of one of the two, the other is greater if anything is left of it
pub none_left : (b d r l : ℕ) → 0 < b → 0 < d → (r ≡ 0) ⊎ (l ≡ 0) → (l < r) ↔ (l * b < r * d)
none_left b d r l first second (inl none) =
    let x : r * d ≡ 0 * d = ap (λ n. n * d) none in
    (λ h. absurd (omega (arith, h, none)), λ h. absurd (omega (arith, h, x)))
none_left b d r l first second (inr none) =
    let x : l * b ≡ 0 * b = ap (λ n. n * b) none in (
      λ h. (let y : d * 1 ≤ d * r = mul-le-mul_left d (omega (arith, h)) in omega (arith, x, y, second)),
      λ h. ⊎_elim (λ z. absurd (let y : r * d ≡ 0 * d = ap (λ n. n * d) z in omega (arith, h, y)))
          (λ some. omega (arith, none, some)) (zero_or_more r),
    )
