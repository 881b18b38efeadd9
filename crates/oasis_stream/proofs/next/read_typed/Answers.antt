use Rattle.oasis_stream.proofs.Typed.{reads_recorded}
use Rattle.oasis_stream.proofs.next.read_typed.Goals as goal

pub returns : goal.returns
returns g c =
    rw c.of_record.ensures (record {
      reads = reads_recorded c.read_fields.result c.read_fields.new.record c.read_fields.ensures.reads;
    })
