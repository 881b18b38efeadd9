use Rattle.oasis_records.proofs.Ruling.{reads_plain}
use Rattle.oasis_records.proofs.start.read_version_text.Goals as goal

pub returns : goal.returns
returns g c = rw c.of_values.ensures (record { reads = reads_plain _ c.read_text.ensures.reads })
