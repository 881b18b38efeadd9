use Rattle.std.proofs.Common.{◌≡◌, ◌+◌, ◌-◌, ◌*◌, ◌/◌, ◌%◌, ◌^◌, ◌<◌, ◌≤◌, ℕ, ap, sym, subst, arith, lit<}
use Rattle.std.proofs.lemmas.Option.{IfSome_then}
use Rattle.std.proofs.Math.Nat.{mul-le-mul_left, one-le-pow}
use Rattle.lvl_units.specs.Steps.{IsDoubleStep}
use Rattle.lvl_units.proofs.Readable.{bounds_of, double_low, double_high, none_readable, powers, power_lt}
use Rattle.lvl_units.proofs.step.of_double.Goals.{then-exponent-lt1003-via-then-exponent-lt1003}
use Rattle.lvl_units.proofs.step.of_double.Goals.{then-exponent-lt1003-via-else-exponent-lt1003+then-exponent-gt1052}
use Rattle.lvl_units.proofs.step.of_double.Goals as goal

pub returns-then-exponent-lt1003-clause-none : goal.returns-then-exponent-lt1003-clause-none
returns-then-exponent-lt1003-clause-none c = λ _ f q r.
    let m : ℕ = 2 ^ 52 + c.args.bits % 2 ^ 52 in
    let e : ℕ = c.args.bits / 2 ^ 52 in
    let bounds = bounds_of f (2 ^ 1075) (m * 2 ^ e * 10 ^ 6) q.is r in
    elim c.then-exponent-lt1003.branch [
      | then-exponent-lt1003-via-then-exponent-lt1003 w ↦ double_low m e (omega arith) w.if-exponent-lt1003.true bounds.0
      | then-exponent-lt1003-via-else-exponent-lt1003+then-exponent-gt1052 w ↦
          double_high m e (omega arith) w.if-exponent-gt1052.true bounds.1
    ]

pub pow-requires : goal.pow-requires
pow-requires c = power_lt 2 (1075 - c.args.bits / 2 ^ 52) 72 (2 ^ 128) (lit< tt) (omega arith) (lit< tt)

pub step-requires-clause-numerator : goal.step-requires-clause-numerator
step-requires-clause-numerator c =
    let x : 2 ^ (1075 - c.args.bits / 2 ^ 52) < 2 ^ 74 =
    power_lt 2 (1075 - c.args.bits / 2 ^ 52) 72 (2 ^ 74) (lit< tt) (omega arith) (lit< tt) in
    omega (arith, x, c.pow.ensures)

pub returns-clause-value : goal.returns-clause-value
returns-clause-value c =
    let m : ℕ = 2 ^ 52 + c.args.bits % 2 ^ 52 in
    let e : ℕ = c.args.bits / 2 ^ 52 in
    let both : 2 ^ e * 2 ^ (1075 - e) ≡ 2 ^ 1075 = powers 2 e 1075 (omega (arith, c.if-exponent-gt1052.false)) in
    let same : c.pow.result * (m * 2 ^ e * 10 ^ 6) ≡ 2 ^ 1075 * (m * 10 ^ 6) =
    omega (arith, ap (λ n. m * n) both, ap (λ n. n * (m * 2 ^ e)) c.pow.ensures) in
    let some : 0 < m * 2 ^ e * 10 ^ 6 = (let x : m * 1 ≤ m * 2 ^ e = mul-le-mul_left m (one-le-pow e 2 (lit< tt)) in omega (arith, x)) in
    let value : IsDoubleStep c.args.bits (record { numerator = c.pow.result; denominator = m * 10 ^ 6 }) = record {
      positive = omega (arith, c.if-exponent-gt1052.false);
      normal = omega (arith, c.if-exponent-lt1003.false);
      finite = omega (arith, c.if-exponent-gt1052.false);
      is = record { same = same; some = omega arith; divides = some };
    } in
    IfSome_then c.step.result c.step.ensures.value (λ s is. subst (IsDoubleStep c.args.bits) (sym is) value)

pub returns-clause-none : goal.returns-clause-none
returns-clause-none c = λ h f q r.
    let m : ℕ = 2 ^ 52 + c.args.bits % 2 ^ 52 in
    let e : ℕ = c.args.bits / 2 ^ 52 in
    let both : 2 ^ e * 2 ^ (1075 - e) ≡ 2 ^ 1075 = powers 2 e 1075 (omega (arith, c.if-exponent-gt1052.false)) in
    let same : c.pow.result * (m * 2 ^ e * 10 ^ 6) ≡ 2 ^ 1075 * (m * 10 ^ 6) =
    omega (arith, ap (λ n. m * n) both, ap (λ n. n * (m * 2 ^ e)) c.pow.ensures) in
    none_readable c.pow.result (m * 10 ^ 6) (2 ^ 1075) (m * 2 ^ e * 10 ^ 6) f same (c.step.ensures.none h) q.is r
