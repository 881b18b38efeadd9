use Rattle.oasis_records.proofs.record.fields_of.Goals as goal

pub returns-in-Rectangle : goal.returns-in-Rectangle
returns-in-Rectangle g c = rw c.in-Rectangle.is (record { reads = c.read_rectangle.ensures.reads })
