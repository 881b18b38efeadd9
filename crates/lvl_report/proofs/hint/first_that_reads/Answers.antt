use Rattle.std.proofs.Common.{◌∙◌, arith}
use Rattle.lvl_report.proofs.Hinting.{passed_by}
use Rattle.lvl_report.proofs.hint.first_that_reads.Goals as goal

pub loop-more-preserved : goal.loop-more-preserved
loop-more-preserved c =
    c.loop-more.invariant
    ∙ passed_by c.args.given c.args.fault.now c.args.sets.now c.loop-more.more-index _ c.is_read_by.result
    (omega (arith, c.loop-more-test.true, c.loop-more.auto.more-index-end)) c.is_read_by.ensures c.if-is_read_by.false
