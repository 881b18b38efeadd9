use Rattle.oasis_records.specs.Fields.{has}
use Rattle.oasis_records.specs.Paths.{AreEndsIf}
use Rattle.oasis_values.proofs.Reading.{reads_case}
use Rattle.std.proofs.Common.{sym, true, ◌∙◌}
use Rattle.oasis_records.proofs.path.ends_if.Goals as goal

pub returns-then-has : goal.returns-then-has
returns-then-has g c =
    record {
      reads = reads_case AreEndsIf (has c.args.info 0x80) true (sym c.has.ensures ∙ c.if-has.true)
          c.read_ends.ensures.reads;
    }
