use Rattle.oasis_stream.proofs.Typed.{reads_first}
use Rattle.oasis_stream.proofs.next.read_first.Goals as goal

pub returns : goal.returns
returns g c = rw c.of_magic.ensures (record { reads = reads_first c.read_magic.result c.read_magic.ensures.reads })
