use Rattle.std.proofs.Common.{◌≡◌, ◌%◌, ◌≤◌, get_or, arith}
use Rattle.oasis_values.proofs.Integers.{next_fits, next_unit, more_groups, more_continues, whole_front}
use Rattle.oasis_values.proofs.Integers.{few_bytes}
use Rattle.oasis_values.proofs.integer.scan_integer.Goals as goal

pub overflow_add-value : goal.overflow_add-value
overflow_add-value c =
    let tenth : c.loop-at.at ≡ 9 → get_or c.args.bytes.now c.loop-at.at 0 % 128 ≤ 1 =
    λ e. elim c.else-at-eq-MOST_BYTES.branch [
      | goal.else-at-eq-MOST_BYTES-via-then-at-eq-MOST_BYTES+else-byte-gt1 w ↦ omega arith
      | goal.else-at-eq-MOST_BYTES-via-else-at-eq-MOST_BYTES w ↦ absurd (omega arith)
    ] in
    let fits = next_fits c.args.bytes.now c.loop-at.at c.loop-at.value c.loop-at.unit c.from-digit.result
    c.loop-at-test.true c.loop-at.invariant.few tenth c.loop-at.invariant.value c.loop-at.invariant.unit
    c.from-digit.ensures in
    omega (arith, fits)

pub returns-then-byte-lt-CONTINUES : goal.returns-then-byte-lt-CONTINUES
returns-then-byte-lt-CONTINUES c =
    let tenth : c.loop-at.at ≡ 9 → get_or c.args.bytes.now c.loop-at.at 0 % 128 ≤ 1 =
    λ e. elim c.else-at-eq-MOST_BYTES.branch [
      | goal.else-at-eq-MOST_BYTES-via-then-at-eq-MOST_BYTES+else-byte-gt1 w ↦ omega arith
      | goal.else-at-eq-MOST_BYTES-via-else-at-eq-MOST_BYTES w ↦ absurd (omega arith)
    ] in
    let fits = next_fits c.args.bytes.now c.loop-at.at c.loop-at.value c.loop-at.unit c.from-digit.result
    c.loop-at-test.true c.loop-at.invariant.few tenth c.loop-at.invariant.value c.loop-at.invariant.unit
    c.from-digit.ensures in
    let is = more_groups c.args.bytes.now c.loop-at.at c.loop-at.value c.loop-at.unit c.from-digit.result
    c.loop-at-test.true c.loop-at.invariant.value c.loop-at.invariant.unit c.from-digit.ensures in
    whole_front c.args.profile.now c.args.bytes.now c.loop-at.at _ c.loop-at-test.true
    (omega (arith, c.loop-at.invariant.few, (few_bytes c.args.profile.now).0)) c.loop-at.invariant.continues is fits
    c.if-byte-lt-CONTINUES.true

pub loop-at-preserved : goal.loop-at-preserved
loop-at-preserved c =
    let low : c.loop-at.at ≤ 8 = elim c.else-at-eq-MOST_BYTES.branch [
      | goal.else-at-eq-MOST_BYTES-via-then-at-eq-MOST_BYTES+else-byte-gt1 w ↦ omega arith
      | goal.else-at-eq-MOST_BYTES-via-else-at-eq-MOST_BYTES w ↦ omega arith
    ] in record {
      few = omega arith;
      continues = more_continues c.args.bytes.now c.loop-at.at c.loop-at-test.true c.loop-at.invariant.continues
          (omega arith);
      value = more_groups c.args.bytes.now c.loop-at.at c.loop-at.value c.loop-at.unit c.from-digit.result
          c.loop-at-test.true c.loop-at.invariant.value c.loop-at.invariant.unit c.from-digit.ensures;
      unit = next_unit c.loop-at.at c.loop-at.unit c.from-unit.result c.loop-at.invariant.unit c.from-unit.ensures;
    }
