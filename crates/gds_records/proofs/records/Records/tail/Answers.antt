use Rattle.std.proofs.Common.{ap, ◌∙◌, arith, drop}
use Rattle.std.specs.Io.KnownBytes.{prepend_known}
use Rattle.gds_records.proofs.Skipped.{nothing_passes, another_passes}
use Rattle.gds_records.proofs.Seen.{seen_limit}
use Rattle.gds_records.proofs.records.Records.tail.Goals as goal

pub returns-in-Nothing-clause-too_long : goal.returns-in-Nothing-clause-too_long
returns-in-Nothing-clause-too_long g c = λ f xs k p _.
    let left = g.R.Read.remaining c.args.self.now.reader in
    let known = ap (λ l. prepend_known l left) c.skip.ensures
    ∙ ap (λ l. prepend_known (drop c.args.self.now.taken l) left) c.deref_mut-ahead.ensures.value ∙ k in
    absurd (nothing_passes _ _ _ _ _ xs c.in-Nothing.is c.skip_zeros-zeros.ensures.zeros known
    c.skip_zeros-zeros.ensures.within p)

pub returns-in-Another-clause-too_long : goal.returns-in-Another-clause-too_long
returns-in-Another-clause-too_long g c = λ f xs k p _.
    let left = g.R.Read.remaining c.args.self.now.reader in
    let known = ap (λ l. prepend_known l left) c.skip.ensures
    ∙ ap (λ l. prepend_known (drop c.args.self.now.taken l) left) c.deref_mut-ahead.ensures.value ∙ k in
    absurd (another_passes _ _ _ _ _ xs c.in-Another.is c.skip_zeros-zeros.ensures.zeros known p)

pub returns-in-Limit-after-clause-decided : goal.returns-in-Limit-after-clause-decided
returns-in-Limit-after-clause-decided g c =
    let e = c.skip_zeros-zeros.ensures.limit c.in-Limit-after.is in
    (seen_limit _ _ _ (omega (arith, e.0)) e.1, λ r. cc)
