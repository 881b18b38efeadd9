use Rattle.std.proofs.Common.{◌≡◌, ◌-◌, ◌*◌, ◌/◌, ◌%◌, ◌^◌, ◌<◌, ℕ, ap, sym, subst, arith, lit<}
use Rattle.std.proofs.lemmas.Option.{IfSome_then}
use Rattle.lvl_units.specs.Steps.{IsGdsStep}
use Rattle.lvl_units.proofs.Readable.{bounds_of, gds_low, gds_high, none_readable, powers, power_lt, power_some}
use Rattle.lvl_units.proofs.step.of_excess_64.Goals.{then-exponent-lt52-via-then-exponent-lt52}
use Rattle.lvl_units.proofs.step.of_excess_64.Goals.{then-exponent-lt52-via-else-exponent-lt52+then-exponent-gt78}
use Rattle.lvl_units.proofs.step.of_excess_64.Goals as goal

pub returns-then-exponent-lt52-clause-none : goal.returns-then-exponent-lt52-clause-none
returns-then-exponent-lt52-clause-none c = λ _ f q r.
    let m : ℕ = c.args.bits % 2 ^ 56 in
    let e : ℕ = c.args.bits / 2 ^ 56 in
    let bounds = bounds_of f (m * 16 ^ e) (16 ^ 78) q.is r in
    elim c.then-exponent-lt52.branch [
      | then-exponent-lt52-via-then-exponent-lt52 w ↦ gds_low m e (omega arith) w.if-exponent-lt52.true bounds.1
      | then-exponent-lt52-via-else-exponent-lt52+then-exponent-gt78 w ↦
          gds_high m e w.if-exponent-gt78.true bounds.0 bounds.1
    ]

pub pow-requires : goal.pow-requires
pow-requires c = power_lt 16 (78 - c.args.bits / 2 ^ 56) 26 (2 ^ 128) (lit< tt) (omega arith) (lit< tt)

pub step-requires-clause-denominator : goal.step-requires-clause-denominator
step-requires-clause-denominator c =
    let x : 16 ^ (78 - c.args.bits / 2 ^ 56) < 2 ^ 106 =
    power_lt 16 (78 - c.args.bits / 2 ^ 56) 26 (2 ^ 106) (lit< tt) (omega arith) (lit< tt) in
    omega (arith, x, c.pow.ensures)

pub step-requires-clause-some : goal.step-requires-clause-some
step-requires-clause-some c =
    omega (arith, power_some 16 (78 - c.args.bits / 2 ^ 56) (lit< tt), c.pow.ensures)

pub returns-clause-value : goal.returns-clause-value
returns-clause-value c =
    let m : ℕ = c.args.bits % 2 ^ 56 in
    let e : ℕ = c.args.bits / 2 ^ 56 in
    let both : 16 ^ e * 16 ^ (78 - e) ≡ 16 ^ 78 = powers 16 e 78 c.if-exponent-gt78.false in
    let same : m * 16 ^ 78 ≡ m * 16 ^ e * c.pow.result =
    omega (arith, ap (λ n. m * n) both, ap (λ n. m * 16 ^ e * n) c.pow.ensures) in
    let some : 0 < c.pow.result = omega (arith, power_some 16 (78 - e) (lit< tt), c.pow.ensures) in
    let value : IsGdsStep c.args.bits (record { numerator = m; denominator = c.pow.result }) = record {
      positive = omega (arith, c.if-exponent-gt78.false);
      is = record { same = same; some = some; divides = lit< tt };
    } in
    IfSome_then c.step.result c.step.ensures.value (λ s is. subst (IsGdsStep c.args.bits) (sym is) value)

pub returns-clause-none : goal.returns-clause-none
returns-clause-none c = λ h f q r.
    let m : ℕ = c.args.bits % 2 ^ 56 in
    let e : ℕ = c.args.bits / 2 ^ 56 in
    let both : 16 ^ e * 16 ^ (78 - e) ≡ 16 ^ 78 = powers 16 e 78 c.if-exponent-gt78.false in
    let same : m * 16 ^ 78 ≡ m * 16 ^ e * c.pow.result =
    omega (arith, ap (λ n. m * n) both, ap (λ n. m * 16 ^ e * n) c.pow.ensures) in
    none_readable m c.pow.result (m * 16 ^ e) (16 ^ 78) f same (c.step.ensures.none h) q.is r
