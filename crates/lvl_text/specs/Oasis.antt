-- What an OASIS file says about itself, and why one is refused, as they are printed (own rule).
use Rattle.std.specs.Prelude.{ℕ, ◌==◌, if◌then◌else◌, List, [], ◌++◌, codes, decimal}
use Rattle.oasis_values.specs.declared.fault.ValueFault.{ValueFault}
use Rattle.oasis_values.specs.declared.fault.ValueFault.TheVariants.{Truncated, IntegerTooLarge, StringByte, RealType}
use Rattle.oasis_values.specs.declared.fault.ValueFault.TheVariants.{ZeroDenominator}
use Rattle.oasis_values.specs.declared.fault.ValueFault.TheVariants.{PointListType, PointCount, RepetitionType}
use Rattle.oasis_values.specs.declared.fault.ValueFault.TheVariants.{RepetitionSize, ListSize}
use Rattle.oasis_values.specs.declared.fault.ValueFault.TheVariants.{OutOfRange, TooLong, Read, Failed, NoModal}
use Rattle.oasis_values.specs.declared.number.Real.{Real}
use Rattle.oasis_values.specs.declared.number.Real.TheVariants.{Whole, NegWhole, Reciprocal, NegReciprocal, Ratio}
use Rattle.oasis_values.specs.declared.number.Real.TheVariants.{NegRatio, Four, Eight}
use Rattle.oasis_records.specs.declared.fault.RecordRule.{RecordRule}
use Rattle.oasis_records.specs.declared.fault.RecordRule.TheVariants.{Magic, Version, Unit, Unsupported, Info}
use Rattle.oasis_records.specs.declared.fault.RecordRule.TheVariants.{EndLength, Scheme, CompressionType}
use Rattle.oasis_blocks.specs.declared.fault.BlockRule.{BlockRule}
use Rattle.oasis_blocks.specs.declared.fault.BlockRule.TheVariants.{TooLong as OverLimit, Deflate, BlockLength}
use Rattle.oasis_figures.specs.declared.rule.FigureRule.{FigureRule}
use Rattle.oasis_figures.specs.declared.rule.FigureRule.TheVariants.{Undefined, Layer, OutOfRange as OutsideRange}
use Rattle.oasis_figures.specs.declared.rule.FigureRule.TheVariants.{Magnification}
use Rattle.oasis_figures.specs.declared.rule.FigureRule.TheVariants.{Angle, Extension, Oblique, Path}
use Rattle.oasis_figures.specs.Names.{variable_name}
use Rattle.oasis_stream.specs.declared.fault.NameRule.{NameRule}
use Rattle.oasis_stream.specs.declared.fault.NameRule.TheVariants.{Mixed, NumberTwice, NameTwice}
use Rattle.oasis_stream.specs.declared.fault.OasisKind.{OasisKind}
use Rattle.oasis_stream.specs.declared.fault.OasisKind.TheVariants.{Value, Record, Figure, Unexpected, Name, AfterEnd}
use Rattle.oasis_stream.specs.declared.fault.OasisKind.TheVariants.{TooManyCells, Block}
use Rattle.oasis_library.specs.declared.fault.OasisFault.{OasisFault}
use Rattle.oasis_library.specs.declared.fault.OasisFault.TheVariants.{At, Unresolved}
use Rattle.oasis_library.specs.declared.head.OasisHead.{OasisHead}
use Rattle.lvl_text.specs.Faults.{spaced, path_fault}
use Rattle.lvl_text.specs.Gds.{hex}

-- a real: a whole number or a fraction in decimal, or the bytes of an IEEE number in the order of the file
abbrev pub real : Real → List ℕ
real (Whole n) = decimal n
real (NegWhole n) = codes "-" ++ decimal n
real (Reciprocal n) = codes "1/" ++ decimal n
real (NegReciprocal n) = codes "-1/" ++ decimal n
real (Ratio n m) = decimal n ++ codes "/" ++ decimal m
real (NegRatio n m) = codes "-" ++ decimal n ++ codes "/" ++ decimal m
real (Four bytes) = codes "hex " ++ hex bytes
real (Eight bytes) = codes "hex " ++ hex bytes

-- the signature, unless the scheme is 0
abbrev pub signature : ℕ → List ℕ → List ℕ
signature scheme bytes = if scheme == 0 then [] else codes " signature " ++ hex bytes

-- the unit, the scheme and the signature
abbrev pub oasis_head_text : OasisHead → List ℕ
oasis_head_text head =
    codes "OASIS 1.0 unit " ++ real head.unit ++ codes " scheme " ++ decimal head.scheme
    ++ signature head.scheme head.signature

-- a fault of a value
abbrev pub value_fault : ValueFault → List ℕ
value_fault Truncated = codes "1 Truncated"
value_fault IntegerTooLarge = codes "2 IntegerTooLarge"
value_fault StringByte = codes "3 StringByte"
value_fault RealType = codes "4 RealType"
value_fault ZeroDenominator = codes "5 ZeroDenominator"
value_fault PointListType = codes "6 PointListType"
value_fault PointCount = codes "7 PointCount"
value_fault RepetitionType = codes "8 RepetitionType"
value_fault RepetitionSize = codes "9 RepetitionSize"
value_fault ListSize = codes "9 RepetitionSize"
value_fault OutOfRange = codes "10 OutOfRange"
value_fault TooLong = codes "11 TooLong"
value_fault Read = codes "12 Read"
value_fault Failed = codes "13 Failed"
value_fault NoModal = codes "14 NoModal"

-- a rule of records that a record breaches by itself
abbrev pub record_rule : RecordRule → List ℕ
record_rule Magic = codes "20 Magic"
record_rule Version = codes "21 Version"
record_rule Unit = codes "22 Unit"
record_rule (Unsupported id) = codes "24 Unsupported " ++ decimal id
record_rule Info = codes "29 Info"
record_rule EndLength = codes "35 EndLength"
record_rule Scheme = codes "36 Scheme"
record_rule CompressionType = codes "41 CompressionType"

-- a rule of figures or placements
abbrev pub figure_rule : FigureRule → List ℕ
figure_rule OutsideRange = codes "10 OutOfRange"
figure_rule (Undefined v) = codes "25 Undefined" ++ spaced (variable_name v)
figure_rule Magnification = codes "30 Magnification"
figure_rule Angle = codes "31 Angle"
figure_rule Extension = codes "32 Extension"
figure_rule (Path fault) = codes "33 Path" ++ spaced (path_fault fault)
figure_rule Oblique = codes "34 Oblique"
figure_rule Layer = codes "38 Layer"

-- a rule of CELLNAME records
abbrev pub name_rule : NameRule → List ℕ
name_rule Mixed = codes "26 MixedNames"
name_rule NumberTwice = codes "27 NumberTwice"
name_rule NameTwice = codes "28 NameTwice"

-- a rule of blocks; one that unpacks to too many bytes is as a file that is too long
abbrev pub block_rule : BlockRule → List ℕ
block_rule OverLimit = codes "11 TooLong"
block_rule Deflate = codes "42 Deflate"
block_rule BlockLength = codes "43 BlockLength"

-- a fault of an OASIS file, without its offset
abbrev pub oasis_kind : OasisKind → List ℕ
oasis_kind (Value fault) = value_fault fault
oasis_kind (Record rule) = record_rule rule
oasis_kind (Figure rule) = figure_rule rule
oasis_kind (Unexpected id) = codes "23 Unexpected " ++ decimal id
oasis_kind (Name rule) = name_rule rule
oasis_kind AfterEnd = codes "37 AfterEnd"
oasis_kind TooManyCells = codes "39 TooManyCells"
oasis_kind (Block rule) = block_rule rule

-- a fault of an OASIS file, with its offset in bytes if it has one
abbrev pub oasis_fault : OasisFault → List ℕ
oasis_fault (At offset kind) = oasis_kind kind ++ codes " at " ++ decimal offset
oasis_fault (Unresolved number) = codes "40 Unresolved " ++ decimal number
