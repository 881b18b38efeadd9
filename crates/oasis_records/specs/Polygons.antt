-- POLYGON records (SEMI P39 OASIS 1.0, "POLYGON record"), with the info byte 00PXYRDL.
use Rattle.std.specs.Prelude.{ℕ, List, Option, Result, Ok}
use Rattle.lvl_grid.specs.declared.point.Point.{Point}
use Rattle.oasis_values.specs.Known.{Seen}
use Rattle.oasis_values.specs.PointLists.{IsPointList}
use Rattle.oasis_values.specs.Spelling.{Spelling, Then}
use Rattle.oasis_values.specs.declared.fault.ValueFault.{ValueFault}
use Rattle.oasis_values.specs.declared.point_list.Use.TheVariants.{Polygon as ForPolygon}
use Rattle.oasis_records.specs.Fields.{has, If, IsInfo, IsOnLayer, IsPosition}
use Rattle.oasis_records.specs.Rules.{AndThen}
use Rattle.oasis_records.specs.declared.fault.RecordRule.{RecordRule}
use Rattle.oasis_records.specs.declared.figure.OnLayer.{OnLayer}
use Rattle.oasis_records.specs.declared.figure.Position.{Position}
use Rattle.oasis_records.specs.declared.record.Record.{Record}
use Rattle.oasis_records.specs.declared.record.Record.TheVariants.{Polygon}

-- the record
abbrev pub polygon : OnLayer → Option (List Point) → Position → Record
polygon on ps p = Polygon (record { on = on; points = ps; position = p })

-- the fields after the info byte
abbrev pub IsPolygonOf : ℕ → Spelling Record
IsPolygonOf i =
    Then (IsOnLayer i) (λ on.
    Then (If (has i 0x20) (IsPointList ForPolygon)) (λ ps.
    Seen (polygon on ps) (IsPosition i)))

-- the fields of a POLYGON; the two highest bits of the info byte are reserved
abbrev pub IsPolygon : Spelling (Result Record RecordRule)
IsPolygon = AndThen (IsInfo 0x40) (λ i. Seen Ok (IsPolygonOf i))
