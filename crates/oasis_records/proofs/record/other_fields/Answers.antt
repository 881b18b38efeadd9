use Rattle.oasis_records.proofs.Ruling.{reads_plain}
use Rattle.oasis_values.proofs.Reading.{reads_nothing}
use Rattle.std.proofs.lemmas.Result.{err_from_is_err_and}
use Rattle.oasis_records.proofs.record.other_fields.Goals as goal

pub returns-in-Pad : goal.returns-in-Pad
returns-in-Pad g c = rw c.in-Pad.is (record { reads = reads_nothing _ c.requires.live })

pub returns-in-XyAbsolute : goal.returns-in-XyAbsolute
returns-in-XyAbsolute g c = rw c.in-XyAbsolute.is (record { reads = reads_nothing _ c.requires.live })

pub returns-in-XyRelative : goal.returns-in-XyRelative
returns-in-XyRelative g c = rw c.in-XyRelative.is (record { reads = reads_nothing _ c.requires.live })

pub returns-in-Start : goal.returns-in-Start
returns-in-Start g c = rw c.in-Start.is (record { reads = c.read_start.ensures.reads })

pub returns-in-Polygon : goal.returns-in-Polygon
returns-in-Polygon g c = rw c.in-Polygon.is (record { reads = c.read_polygon.ensures.reads })

pub returns-in-Path : goal.returns-in-Path
returns-in-Path g c = rw c.in-Path.is (record { reads = c.read_path.ensures.reads })

pub returns-in-Block : goal.returns-in-Block
returns-in-Block g c = rw c.in-Block.is (record { reads = c.read_block.ensures.reads })

pub returns-in-CellName : goal.returns-in-CellName
returns-in-CellName g c =
    rw (c.in-CellName.is, c.of_values.ensures) (record { reads = reads_plain _ c.read_cell_name.ensures.reads })

pub returns-in-NumberedCellName : goal.returns-in-NumberedCellName
returns-in-NumberedCellName g c =
    rw (c.in-NumberedCellName.is, c.of_values-in-NumberedCellName.ensures)
    (record { reads = reads_plain _ c.read_numbered_name.ensures.reads })

pub returns-in-NumberedCell : goal.returns-in-NumberedCell
returns-in-NumberedCell g c =
    rw (c.in-NumberedCell.is, c.of_values-in-NumberedCell.ensures)
    (record { reads = reads_plain _ c.read_cell.ensures.reads })

pub returns-in-NamedCell : goal.returns-in-NamedCell
returns-in-NamedCell g c =
    rw (c.in-NamedCell.is, c.of_values-in-NamedCell.ensures)
    (record { reads = reads_plain _ c.read_cell-in-NamedCell.ensures.reads })

pub returns-in-Placement : goal.returns-in-Placement
returns-in-Placement g c =
    rw (c.in-Placement.is, c.of_values-in-Placement.ensures)
    (record { reads = reads_plain _ c.read_turned.ensures.reads })

pub returns-in-ScaledPlacement : goal.returns-in-ScaledPlacement
returns-in-ScaledPlacement g c =
    rw (c.in-ScaledPlacement.is, c.of_values-in-ScaledPlacement.ensures)
    (record { reads = reads_plain _ c.read_scaled.ensures.reads })

pub returns-in_err-end-in-End : goal.returns-in_err-end-in-End
returns-in_err-end-in-End g c =
    let p = err_from_is_err_and c.from_residual.result c.from_residual.ensures.1 in
    rw (p.1, p.2, c.in-End.is) (record { reads = c.in_err-end-in-End.ensures.reads })

pub returns-in_ok-end-in-End : goal.returns-in_ok-end-in-End
returns-in_ok-end-in-End g c = rw c.in-End.is (record { reads = c.in_ok-end-in-End.ensures.reads })

pub returns-in_err-entry-in-Entry : goal.returns-in_err-entry-in-Entry
returns-in_err-entry-in-Entry g c =
    let p = err_from_is_err_and c.from_residual-in_err-entry-in-Entry.result
    c.from_residual-in_err-entry-in-Entry.ensures.1 in
    rw (p.1, p.2, c.in-Entry.is) (record { reads = c.in_err-entry-in-Entry.ensures.reads })

pub returns-in_ok-entry-in-Entry : goal.returns-in_ok-entry-in-Entry
returns-in_ok-entry-in-Entry g c = rw c.in-Entry.is (record { reads = c.in_ok-entry-in-Entry.ensures.reads })

pub returns-in-Text : goal.returns-in-Text
returns-in-Text g c = rw c.in-Text.is (record { reads = c.read_label.ensures.reads })

pub returns-in_err-property-in-Property : goal.returns-in_err-property-in-Property
returns-in_err-property-in-Property g c =
    let p = err_from_is_err_and c.from_residual-in_err-property-in-Property.result
    c.from_residual-in_err-property-in-Property.ensures.1 in
    rw (p.1, p.2, c.in-Property.is) (record { reads = c.in_err-property-in-Property.ensures.reads })

pub returns-in_ok-property-in-Property : goal.returns-in_ok-property-in-Property
returns-in_ok-property-in-Property g c =
    rw c.in-Property.is (record { reads = c.in_ok-property-in-Property.ensures.reads })

pub returns-in-LastProperty : goal.returns-in-LastProperty
returns-in-LastProperty g c = rw c.in-LastProperty.is (record { reads = reads_nothing _ c.requires.live })
