use Rattle.std.proofs.Common.{◌≡◌, ◌<◌, ◌^◌, ◌%◌, get_or, take, inl, inr, sym, subst, arith, ◌∙◌}
use Rattle.oasis_values.specs.Numbers.{groups, most_bytes}
use Rattle.oasis_values.proofs.Integers.{too_large_front, later_large, zero_group, whole_front, more_continues}
use Rattle.oasis_values.proofs.integer.scan_padding.Goals as goal

pub returns-then-byte-gt0 : goal.returns-then-byte-gt0
returns-then-byte-gt0 c =
    let n = c.loop-at.at in
    let i = c.loop-at.invariant in
    let few : n < most_bytes c.args.profile.now = subst (λ k. n < k) (sym c.requires.padded) i.1 in
    let fits : groups (take n c.args.bytes.now) < 2 ^ 64 = subst (λ k. k < 2 ^ 64) i.3 (omega arith) in
    too_large_front c.args.profile.now c.args.bytes.now n c.loop-at-test.true few i.2 fits
    (inl (later_large c.args.bytes.now n c.loop-at-test.true i.0 c.if-byte-gt0.true))

pub returns-then-byte-lt-CONTINUES : goal.returns-then-byte-lt-CONTINUES
returns-then-byte-lt-CONTINUES c =
    let n = c.loop-at.at in
    let i = c.loop-at.invariant in
    let few : n < most_bytes c.args.profile.now = subst (λ k. n < k) (sym c.requires.padded) i.1 in
    let zero : get_or c.args.bytes.now n 0 % 128 ≡ 0 = omega (arith, c.if-byte-gt0.false) in
    whole_front c.args.profile.now c.args.bytes.now n c.args.value c.loop-at-test.true few i.2
    (zero_group c.args.bytes.now n c.args.value c.loop-at-test.true i.3 zero) (omega arith)
    c.if-byte-lt-CONTINUES.true

pub returns-then-at-eq-MOST_PADDED_BYTES : goal.returns-then-at-eq-MOST_PADDED_BYTES
returns-then-at-eq-MOST_PADDED_BYTES c =
    let n = c.loop-at.at in
    let i = c.loop-at.invariant in
    let few : n < most_bytes c.args.profile.now = subst (λ k. n < k) (sym c.requires.padded) i.1 in
    let fits : groups (take n c.args.bytes.now) < 2 ^ 64 = subst (λ k. k < 2 ^ 64) i.3 (omega arith) in
    too_large_front c.args.profile.now c.args.bytes.now n c.loop-at-test.true few i.2 fits
    (inr (c.if-byte-lt-CONTINUES.false, c.if-at-eq-MOST_PADDED_BYTES.true ∙ sym c.requires.padded))

pub loop-at-preserved : goal.loop-at-preserved
loop-at-preserved c =
    let n = c.loop-at.at in
    let i = c.loop-at.invariant in
    let zero : get_or c.args.bytes.now n 0 % 128 ≡ 0 = omega (arith, c.if-byte-gt0.false) in (
      omega (arith, i.0),
      omega (arith, i.1, c.if-at-eq-MOST_PADDED_BYTES.false),
      more_continues c.args.bytes.now n c.loop-at-test.true i.2 c.if-byte-lt-CONTINUES.false,
      zero_group c.args.bytes.now n c.args.value c.loop-at-test.true i.3 zero,
    )
