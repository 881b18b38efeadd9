-- Which quotients are readable lengths.
use Rattle.std.proofs.Common.{◌≡◌, ℕ, zero, suc, ◌+◌, ◌-◌, ◌*◌, ◌^◌, ◌<◌, ◌≤◌, ap, ◌∙◌, sym, arith, ⊎_elim, lit<}
use Rattle.std.proofs.lemmas.Bool.{cases_lt}
use Rattle.std.proofs.lemmas.Nat.{pow-add}
use Rattle.std.proofs.Math.Nat.{mul-le-mul_left, pow-le-pow_right, one-le-pow}
use Rattle.lvl_units.specs.Steps.{Fraction, IsQuotient, IsReadable}

-- a factor that isn't zero may be left out
pub le_without : (k a b : ℕ) → 0 < k → k * a ≤ k * b → a ≤ b
le_without k a b some less =
    ⊎_elim (λ more. (let m : k * (b + 1) ≤ k * a = mul-le-mul_left k (omega (arith, more)) in
    absurd (omega (arith, less, m, some)))) (λ h. h) (cases_lt b a)

-- of two equal quotients either both are from 10^-15 to 1 or neither
pub readable_same : (n d a b : ℕ) → n * b ≡ a * d → 0 < b → a ≤ b → b ≤ a * 10 ^ 15 → (n ≤ d) × (d ≤ n * 10 ^ 15)
readable_same n d a b same some most least =
    let x : d * a ≤ d * b = mul-le-mul_left d most in
    let y : d * b ≤ d * (a * 10 ^ 15) = mul-le-mul_left d least in (
      le_without b n d some (omega (arith, same, x)),
      le_without b d (n * 10 ^ 15) some (omega (arith, same, y)),
    )

pub bounds_of : (f : Fraction) (a b : ℕ) → IsQuotient f a b → IsReadable f → (a ≤ b) × (b ≤ a * 10 ^ 15)
bounds_of f a b q r = readable_same a b f.numerator f.denominator (sym q.same) q.some r.most r.least

-- if one of two equal quotients isn't readable, neither is the other
pub none_readable : (n d a b : ℕ) (f : Fraction) → n * b ≡ a * d → ¬ IsReadable (record { numerator = n; denominator = d }) → IsQuotient f a b → ¬ IsReadable f
none_readable n d a b f same none q r =
    let bounds = bounds_of f a b q r in
    let here = readable_same n d a b same q.divides bounds.0 bounds.1 in
    none (record { most = here.0; least = here.1 })

-- the powers of two parts of an exponent
pub powers : (n e k : ℕ) → e ≤ k → n ^ e * n ^ (k - e) ≡ n ^ k
powers n e k h = sym (pow-add n e (k - e)) ∙ ap (λ i. n ^ i) (omega (arith, h))

-- a real of GDSII with an exponent below 52 or above 78 is out of range
pub gds_low : (m e : ℕ) → m < 2 ^ 56 → e < 52 → 16 ^ 78 ≤ m * 16 ^ e * 10 ^ 15 → ⊥
gds_low m e small low least =
    let x : 16 ^ e ≤ 16 ^ 51 = pow-le-pow_right {n = 16} (lit< tt) {i = e} {j = 51} (omega (arith, low)) in
    let y : m * 16 ^ e ≤ m * 16 ^ 51 = mul-le-mul_left m x in
    omega (arith, small, least, y)

pub gds_high : (m e : ℕ) → 78 < e → m * 16 ^ e ≤ 16 ^ 78 → 16 ^ 78 ≤ m * 16 ^ e * 10 ^ 15 → ⊥
gds_high zero e high most least = omega (arith, least)
gds_high (suc m) e high most least =
    let x : 16 ^ 79 ≤ 16 ^ e = pow-le-pow_right {n = 16} (lit< tt) {i = 79} {j = e} (omega (arith, high)) in
    omega (arith, most, x)

-- so is one of IEEE 754 with 64 bits and an exponent below 1003 or above 1052
pub double_low : (m e : ℕ) → m < 2 ^ 53 → e < 1003 → 2 ^ 1075 ≤ m * 2 ^ e * 10 ^ 6 → ⊥
double_low m e small low most =
    let x : 2 ^ e ≤ 2 ^ 1002 = pow-le-pow_right {n = 2} (lit< tt) {i = e} {j = 1002} (omega (arith, low)) in
    let y : m * 2 ^ e ≤ m * 2 ^ 1002 = mul-le-mul_left m x in
    omega (arith, small, most, y)

pub double_high : (m e : ℕ) → 2 ^ 52 ≤ m → 1052 < e → m * 2 ^ e * 10 ^ 6 ≤ 2 ^ 1075 * 10 ^ 15 → ⊥
double_high m e large high least =
    let x : 2 ^ 1053 ≤ 2 ^ e = pow-le-pow_right {n = 2} (lit< tt) {i = 1053} {j = e} (omega (arith, high)) in
    let y : m * 2 ^ 1053 ≤ m * 2 ^ e = mul-le-mul_left m x in
    omega (arith, large, least, y)

-- and one with 32 bits and an exponent below 107 or above 156
pub float_low : (m e : ℕ) → m < 2 ^ 24 → e < 107 → 2 ^ 150 ≤ m * 2 ^ e * 10 ^ 6 → ⊥
float_low m e small low most =
    let x : 2 ^ e ≤ 2 ^ 106 = pow-le-pow_right {n = 2} (lit< tt) {i = e} {j = 106} (omega (arith, low)) in
    let y : m * 2 ^ e ≤ m * 2 ^ 106 = mul-le-mul_left m x in
    omega (arith, small, most, y)

pub float_high : (m e : ℕ) → 2 ^ 23 ≤ m → 156 < e → m * 2 ^ e * 10 ^ 6 ≤ 2 ^ 150 * 10 ^ 15 → ⊥
float_high m e large high least =
    let x : 2 ^ 157 ≤ 2 ^ e = pow-le-pow_right {n = 2} (lit< tt) {i = 157} {j = e} (omega (arith, high)) in
    let y : m * 2 ^ 157 ≤ m * 2 ^ e = mul-le-mul_left m x in
    omega (arith, large, least, y)

-- a power within the limits of the exponent
pub power_lt : (n k most limit : ℕ) → 0 < n → k ≤ most → n ^ most < limit → n ^ k < limit
power_lt n k most limit some h small =
    let x : n ^ k ≤ n ^ most = pow-le-pow_right {n = n} some {i = k} {j = most} h in
    omega (arith, x, small)

pub power_some : (n k : ℕ) → 0 < n → 0 < n ^ k
power_some n k some = omega (arith, one-le-pow k n some)
