use Rattle.std.proofs.Common.{◌∙◌, sym, arith}
use Rattle.gds_records.proofs.Skipped.{takes_read, takes_more, takes_end, takes_another, takes_too_long}
use Rattle.gds_records.proofs.zeros.skip_zeros.Goals as goal

pub returns-in-Ok-false-clause-zeros : goal.returns-in-Ok-false-clause-zeros
returns-in-Ok-false-clause-zeros g c =
    takes_end c.zeros.taken c.args.room _ _ _ c.zeros.invariant.zeros c.fill.ensures.bytes
    (λ left k. sym c.in-Ok-false.field-0-test ∙ c.in-Ok-false.ensures.exact left k)

pub returns-then-taken-room-clause-zeros : goal.returns-then-taken-room-clause-zeros
returns-then-taken-room-clause-zeros g c =
    let read = takes_read c.zeros.taken _ _ _ c.zeros.invariant.zeros c.fill.ensures.bytes in
    let more = takes_more c.zeros.taken c.skip_ahead-taken.result _ _ _ _ read c.skip_ahead-taken.ensures.zeros in
    takes_another _ _ _ _ c.skip_ahead-taken.new.ahead more (omega arith) (omega arith)
    (c.skip_ahead-taken.ensures.all (omega arith))

pub returns-else-taken-room-clause-zeros : goal.returns-else-taken-room-clause-zeros
returns-else-taken-room-clause-zeros g c =
    let read = takes_read c.zeros.taken _ _ _ c.zeros.invariant.zeros c.fill.ensures.bytes in
    let more = takes_more c.zeros.taken c.skip_ahead-taken.result _ _ _ _ read c.skip_ahead-taken.ensures.zeros in
    takes_too_long _ _ _ _ c.skip_ahead-taken.new.ahead more (omega arith) (omega arith)

pub zeros-preserved : goal.zeros-preserved
zeros-preserved g c =
    let read = takes_read c.zeros.taken _ _ _ c.zeros.invariant.zeros c.fill.ensures.bytes in
    let more = takes_more c.zeros.taken c.skip_ahead-taken.result _ _ _ _ read c.skip_ahead-taken.ensures.zeros in
    record {
      zeros = more;
      within = omega arith;
      errors = c.in-Ok-true.ensures.errors ∙ c.zeros.invariant.errors;
      lent = c.fill.ensures.same ∙ c.zeros.invariant.lent;
    }
