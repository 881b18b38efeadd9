use Rattle.oasis_values.proofs.Reading.{reads_nothing}
use Rattle.std.proofs.Common.{false}
use Rattle.oasis_records.proofs.start.read_offsets.Goals as goal

pub returns-then-are_there : goal.returns-then-are_there
returns-then-are_there g c = rw c.if-are_there.true (record { reads = c.skip_offsets.ensures.reads })

pub returns : goal.returns
returns g c = rw c.if-are_there.false (record { reads = reads_nothing false c.requires })
