use Rattle.std.proofs.Common.{◌<◌, ◌≤◌, ◌^◌, get_or, take, inl, inr, not, ap, sym, subst, arith}
use Rattle.oasis_values.specs.Numbers.{groups, most_bytes}
use Rattle.oasis_values.proofs.Integers.{few_bytes, most_plain, more_continues, tenth_large, too_large_front}
use Rattle.oasis_values.proofs.integer.scan_long.Goals as goal

pub returns-then-digit-gt1 : goal.returns-then-digit-gt1
returns-then-digit-gt1 c =
    let few : 9 < most_bytes c.args.profile.now = omega (arith, (few_bytes c.args.profile.now).0) in
    let fits : groups (take 9 c.args.bytes.now) < 2 ^ 64 = subst (λ k. k < 2 ^ 64) c.requires.value (omega arith) in
    too_large_front c.args.profile.now c.args.bytes.now 9 c.requires.long few c.requires.continues fits
    (inl (tenth_large c.args.bytes.now c.requires.long c.if-digit-gt1.true))

pub returns-then-not-profile : goal.returns-then-not-profile
returns-then-not-profile c =
    let few : 9 < most_bytes c.args.profile.now = omega (arith, (few_bytes c.args.profile.now).0) in
    let fits : groups (take 9 c.args.bytes.now) < 2 ^ 64 = subst (λ k. k < 2 ^ 64) c.requires.value (omega arith) in
    let goes_on : 128 ≤ get_or c.args.bytes.now 9 0 = omega (arith, c.requires.above, c.if-digit-gt1.false) in
    too_large_front c.args.profile.now c.args.bytes.now 9 c.requires.long few c.requires.continues fits
    (inr (goes_on, sym (most_plain c.args.profile.now (ap not c.if-not-profile.true))))

pub scan_padding-requires-clause-continues : goal.scan_padding-requires-clause-continues
scan_padding-requires-clause-continues c =
    more_continues c.args.bytes.now 9 c.requires.long c.requires.continues
    (omega (arith, c.requires.above, c.if-digit-gt1.false))
