-- PATH records (SEMI P39 OASIS 1.0, "PATH record"), with the info byte EWPXYRDL and the scheme byte 0000SSEE.
use Rattle.std.specs.Prelude.{ℕ, ◌/◌, ◌%◌, Bool, true, false, List, [], ◌∷◌, Option, Some, None, Result, Ok}
use Rattle.lvl_grid.specs.declared.point.Point.{Point}
use Rattle.oasis_values.specs.Known.{one_of, Seen}
use Rattle.oasis_values.specs.Numbers.{IsByte, IsUnsigned}
use Rattle.oasis_values.specs.PointLists.{IsPointList}
use Rattle.oasis_values.specs.Reals.{IsSigned}
use Rattle.oasis_values.specs.Spelling.{Spelling, Gives, Then}
use Rattle.oasis_values.specs.declared.fault.ValueFault.{ValueFault}
use Rattle.oasis_values.specs.declared.point_list.Use.TheVariants.{Path as ForPath}
use Rattle.oasis_records.specs.Fields.{has, If, IsInfo, IsOnLayer, IsPosition}
use Rattle.oasis_records.specs.Rules.{AndThen}
use Rattle.oasis_records.specs.declared.fault.RecordRule.{RecordRule}
use Rattle.oasis_records.specs.declared.figure.OnLayer.{OnLayer}
use Rattle.oasis_records.specs.declared.figure.Position.{Position}
use Rattle.oasis_records.specs.declared.path.Ends.{Ends}
use Rattle.oasis_records.specs.declared.path.Extension.{Extension}
use Rattle.oasis_records.specs.declared.path.Extension.TheVariants.{Modal, Flush, HalfWidth, Explicit}
use Rattle.oasis_records.specs.declared.path.Kind.{Kind}
use Rattle.oasis_records.specs.declared.path.Kind.TheVariants.{Modal as OfModal, Flush as OfFlush}
use Rattle.oasis_records.specs.declared.path.Kind.TheVariants.{HalfWidth as OfHalfWidth, Explicit as OfExplicit}
use Rattle.oasis_records.specs.declared.path.Stroke.{Stroke}
use Rattle.oasis_records.specs.declared.record.Record.{Record}
use Rattle.oasis_records.specs.declared.record.Record.TheVariants.{Path}

-- the kinds of extensions by their numbers, from 0
abbrev pub kind_of : ℕ → Kind
kind_of = one_of 0 (OfModal ∷ OfFlush ∷ OfHalfWidth ∷ []) OfExplicit

-- an extension of that kind
abbrev pub IsExtension : Kind → Spelling Extension
IsExtension OfModal = Gives (Ok Modal)
IsExtension OfFlush = Gives (Ok Flush)
IsExtension OfHalfWidth = Gives (Ok HalfWidth)
IsExtension OfExplicit = Seen Explicit IsSigned

-- the extensions at both ends
abbrev pub ends : Extension → Extension → Ends
ends s e = record { start = s; end = e }

-- the extensions, by the scheme byte: the start's bits are higher than the end's, and its integer comes first
abbrev pub AreEndsOf : ℕ → Spelling Ends
AreEndsOf scheme = Then (IsExtension (kind_of (scheme / 4))) (λ s. Seen (ends s) (IsExtension (kind_of (scheme % 4))))

-- extensions that are in the record
abbrev pub some_ends : Ends → Result (Option Ends) RecordRule
some_ends e = Ok (Some e)

-- the scheme byte and the extensions; the four highest bits of the byte are reserved
abbrev pub AreEnds : Spelling (Result (Option Ends) RecordRule)
AreEnds = AndThen (IsInfo 0x10) (λ scheme. Seen some_ends (AreEndsOf scheme))

-- the scheme byte and the extensions, if E is set
abbrev pub AreEndsIf : Bool → Spelling (Result (Option Ends) RecordRule)
AreEndsIf true = AreEnds
AreEndsIf false = Gives (Ok (Ok None))

-- the fields before the point list
abbrev pub stroke : ℕ → OnLayer → Option ℕ → Option Ends → Result Stroke RecordRule
stroke i on w e = Ok (record { info = i; on = on; half_width = w; ends = e })

-- the fields after the info byte, before the point list
abbrev pub IsStrokeOf : ℕ → Spelling (Result Stroke RecordRule)
IsStrokeOf i =
    Then (IsOnLayer i) (λ on.
    Then (If (has i 0x40) IsUnsigned) (λ w.
    AndThen (AreEndsIf (has i 0x80)) (λ e. Gives (Ok (stroke i on w e)))))

-- the info byte, and the fields before the point list
abbrev pub IsStroke : Spelling (Result Stroke RecordRule)
IsStroke = Then IsByte IsStrokeOf

-- the record
abbrev pub path : Stroke → Option (List Point) → Position → Record
path s ps p = Path (record { on = s.on; half_width = s.half_width; ends = s.ends; points = ps; position = p })

-- the fields from the point list on
abbrev pub IsPathOf : Stroke → Spelling Record
IsPathOf s = Then (If (has s.info 0x20) (IsPointList ForPath)) (λ ps. Seen (path s ps) (IsPosition s.info))

-- the fields of a PATH
abbrev pub IsPath : Spelling (Result Record RecordRule)
IsPath = AndThen IsStroke (λ s. Seen Ok (IsPathOf s))
