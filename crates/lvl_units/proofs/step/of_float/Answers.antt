use Rattle.std.proofs.Common.{◌≡◌, ◌+◌, ◌-◌, ◌*◌, ◌/◌, ◌%◌, ◌^◌, ◌<◌, ◌≤◌, ℕ, ap, sym, subst, arith, lit<}
use Rattle.std.proofs.lemmas.Option.{IfSome_then}
use Rattle.std.proofs.Math.Nat.{mul-le-mul_left, one-le-pow}
use Rattle.lvl_units.specs.Steps.{IsFloatStep}
use Rattle.lvl_units.proofs.Readable.{bounds_of, float_low, float_high, none_readable, powers, power_lt}
use Rattle.lvl_units.proofs.step.of_float.Goals.{then-exponent-lt107-via-then-exponent-lt107}
use Rattle.lvl_units.proofs.step.of_float.Goals.{then-exponent-lt107-via-else-exponent-lt107+then-exponent-gt156}
use Rattle.lvl_units.proofs.step.of_float.Goals as goal

pub returns-then-exponent-lt107-clause-none : goal.returns-then-exponent-lt107-clause-none
returns-then-exponent-lt107-clause-none c = λ _ f q r.
    let m : ℕ = 2 ^ 23 + c.args.bits % 2 ^ 23 in
    let e : ℕ = c.args.bits / 2 ^ 23 in
    let bounds = bounds_of f (2 ^ 150) (m * 2 ^ e * 10 ^ 6) q.is r in
    elim c.then-exponent-lt107.branch [
      | then-exponent-lt107-via-then-exponent-lt107 w ↦ float_low m e (omega arith) w.if-exponent-lt107.true bounds.0
      | then-exponent-lt107-via-else-exponent-lt107+then-exponent-gt156 w ↦
          float_high m e (omega arith) w.if-exponent-gt156.true bounds.1
    ]

pub pow-requires : goal.pow-requires
pow-requires c = power_lt 2 (157 - c.args.bits / 2 ^ 23) 50 (2 ^ 128) (lit< tt) (omega arith) (lit< tt)

pub step-requires-clause-numerator : goal.step-requires-clause-numerator
step-requires-clause-numerator c =
    let x : 2 ^ (157 - c.args.bits / 2 ^ 23) < 2 ^ 74 =
    power_lt 2 (157 - c.args.bits / 2 ^ 23) 50 (2 ^ 74) (lit< tt) (omega arith) (lit< tt) in
    omega (arith, x, c.pow.ensures)

pub returns-clause-value : goal.returns-clause-value
returns-clause-value c =
    let m : ℕ = 2 ^ 23 + c.args.bits % 2 ^ 23 in
    let e : ℕ = c.args.bits / 2 ^ 23 in
    let both : 2 ^ e * 2 ^ (157 - e) ≡ 2 ^ 157 = powers 2 e 157 (omega (arith, c.if-exponent-gt156.false)) in
    let same : c.pow.result * (m * 2 ^ e * 10 ^ 6) ≡ 2 ^ 150 * (m * 128 * 10 ^ 6) =
    omega (arith, ap (λ n. m * n) both, ap (λ n. n * (m * 2 ^ e)) c.pow.ensures) in
    let some : 0 < m * 2 ^ e * 10 ^ 6 = (let x : m * 1 ≤ m * 2 ^ e = mul-le-mul_left m (one-le-pow e 2 (lit< tt)) in omega (arith, x)) in
    let value : IsFloatStep c.args.bits (record { numerator = c.pow.result; denominator = m * 128 * 10 ^ 6 }) = record {
      positive = omega (arith, c.if-exponent-gt156.false);
      normal = omega (arith, c.if-exponent-lt107.false);
      finite = omega (arith, c.if-exponent-gt156.false);
      is = record { same = same; some = omega arith; divides = some };
    } in
    IfSome_then c.step.result c.step.ensures.value (λ s is. subst (IsFloatStep c.args.bits) (sym is) value)

pub returns-clause-none : goal.returns-clause-none
returns-clause-none c = λ h f q r.
    let m : ℕ = 2 ^ 23 + c.args.bits % 2 ^ 23 in
    let e : ℕ = c.args.bits / 2 ^ 23 in
    let both : 2 ^ e * 2 ^ (157 - e) ≡ 2 ^ 157 = powers 2 e 157 (omega (arith, c.if-exponent-gt156.false)) in
    let same : c.pow.result * (m * 2 ^ e * 10 ^ 6) ≡ 2 ^ 150 * (m * 128 * 10 ^ 6) =
    omega (arith, ap (λ n. m * n) both, ap (λ n. n * (m * 2 ^ e)) c.pow.ensures) in
    none_readable c.pow.result (m * 128 * 10 ^ 6) (2 ^ 150) (m * 2 ^ e * 10 ^ 6) f same (c.step.ensures.none h) q.is r
