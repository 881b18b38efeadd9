use Rattle.oasis_records.proofs.Ruling.{reads_denies}
use Rattle.oasis_records.proofs.Whole.{fields_code}
use Rattle.oasis_records.proofs.record.read_fields.Goals as goal

pub returns : goal.returns
returns g c =
    record {
      reads = c.fields_of.ensures.reads;
      none = reads_denies _ (fields_code c.args.has_offsets_at_end c.args.id_len c.args.kind)
          c.fields_of.ensures.reads;
    }
