use Rattle.oasis_records.proofs.Ruling.{reads_plain}
use Rattle.oasis_records.proofs.names.skip_entry.Goals as goal

pub returns-in-String : goal.returns-in-String
returns-in-String g c =
    rw (c.in-String.is, c.no_rule.ensures) (record { reads = reads_plain _ c.skip_string.ensures.reads })

pub returns-in-NumberedString : goal.returns-in-NumberedString
returns-in-NumberedString g c =
    rw (c.in-NumberedString.is, c.no_rule-in-NumberedString.ensures)
    (record { reads = reads_plain _ c.skip_numbered_string.ensures.reads })

pub returns-in-LayerName : goal.returns-in-LayerName
returns-in-LayerName g c = rw c.in-LayerName.is (record { reads = c.skip_layer_name.ensures.reads })

pub returns-in-XName : goal.returns-in-XName
returns-in-XName g c =
    rw (c.in-XName.is, c.no_rule-in-XName.ensures) (record { reads = reads_plain _ c.skip_x_name.ensures.reads })

pub returns-in-NumberedXName : goal.returns-in-NumberedXName
returns-in-NumberedXName g c =
    rw (c.in-NumberedXName.is, c.no_rule-in-NumberedXName.ensures)
    (record { reads = reads_plain _ c.skip_numbered_x_name.ensures.reads })
