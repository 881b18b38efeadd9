-- The spelling of a whole record is prefix-free, and a record is read as its id and its fields.
use Rattle.std.proofs.Common.{ℕ, ◌==◌, Bool, true, false, List, [], ◌∷◌, Ok}
use Rattle.oasis_records.specs.Ends.{IsPaddingLength, ArePadding, IsScheme, four, AreFour, signed, IsSignature}
use Rattle.oasis_records.specs.Ends.{IsEnding, IsEndOf, IsEnd}
use Rattle.oasis_records.specs.Magic.{AreMagicBytes}
use Rattle.oasis_records.specs.Records.{AreFields}
use Rattle.oasis_records.specs.declared.measured.Measured.{Measured}
use Rattle.oasis_records.specs.declared.record_type.RecordType.{RecordType}
use Rattle.oasis_records.specs.declared.record_type.RecordType.TheVariants.{Pad as OfPad, Start as OfStart}
use Rattle.oasis_records.specs.declared.record_type.RecordType.TheVariants.{End as OfEnd, CellName as OfCellName}
use Rattle.oasis_records.specs.declared.record_type.RecordType.TheVariants.{NumberedCellName as OfNumberedCellName}
use Rattle.oasis_records.specs.declared.record_type.RecordType.TheVariants.{NumberedCell as OfNumberedCell}
use Rattle.oasis_records.specs.declared.record_type.RecordType.TheVariants.{NamedCell as OfNamedCell}
use Rattle.oasis_records.specs.declared.record_type.RecordType.TheVariants.{Entry as OfEntry}
use Rattle.oasis_records.specs.declared.record_type.RecordType.TheVariants.{Text as OfText, Property as OfProperty}
use Rattle.oasis_records.specs.declared.record_type.RecordType.TheVariants.{LastProperty as OfLastProperty}
use Rattle.oasis_records.specs.declared.record_type.RecordType.TheVariants.{XyAbsolute as OfXyAbsolute}
use Rattle.oasis_records.specs.declared.record_type.RecordType.TheVariants.{XyRelative as OfXyRelative}
use Rattle.oasis_records.specs.declared.record_type.RecordType.TheVariants.{Placement as OfPlacement}
use Rattle.oasis_records.specs.declared.record_type.RecordType.TheVariants.{ScaledPlacement as OfScaledPlacement}
use Rattle.oasis_records.specs.declared.record_type.RecordType.TheVariants.{Rectangle as OfRectangle}
use Rattle.oasis_records.specs.declared.record_type.RecordType.TheVariants.{Polygon as OfPolygon, Path as OfPath}
use Rattle.oasis_records.specs.declared.record_type.RecordType.TheVariants.{Block as OfBlock}
use Rattle.oasis_records.proofs.Ignored.{entry_code, label_code, property_code}
use Rattle.oasis_records.proofs.Others.{block_code, cell_code, cell_name_code, numbered_name_code, turned_code, scaled_code}
use Rattle.oasis_records.proofs.Others.{tables_code, start_code}
use Rattle.oasis_records.proofs.Ruling.{and_then_code}
use Rattle.oasis_records.proofs.Shapes.{rectangle_code, polygon_code, path_code}
use Rattle.oasis_records.proofs.Sizes.{sized_code}
use Rattle.oasis_values.proofs.Codes.{gives_code, then_code, chain_code, seen_code, IsCode}
use Rattle.oasis_values.proofs.Integers.{byte_code, unsigned_code}

pub padding_length_code : (b : Bool) → IsCode (IsPaddingLength b)
padding_length_code b = then_code (tables_code b) (λ t. unsigned_code)

pub padding_code : (n : ℕ) → IsCode (ArePadding n)
padding_code n = seen_code (λ _. n) (chain_code (λ x. x) n 0 (λ _. byte_code))

pub scheme_code : IsCode IsScheme
scheme_code = then_code byte_code (λ s. gives_code)

pub four_code : IsCode AreFour
four_code =
    then_code byte_code (λ a. then_code byte_code (λ b. then_code byte_code (λ d. seen_code (four a b d) byte_code)))

pub signature_code : (b : Bool) (s : ℕ) → IsCode (IsSignature b s)
signature_code true s = gives_code
signature_code false s = seen_code (signed (s == 1)) four_code

pub ending_code : (n : ℕ) → IsCode (IsEnding n)
ending_code n =
    then_code (padding_code n) (λ p. and_then_code scheme_code (λ s. seen_code Ok (signature_code (s == 0) s)))

pub end_of_code : (n : ℕ) (p : Measured) → IsCode (IsEndOf n p)
end_of_code n p = and_then_code (ending_code p.value) (λ v. gives_code)

pub end_code : (b : Bool) (n : ℕ) → IsCode (IsEnd b n)
end_code b n = then_code (sized_code (padding_length_code b)) (λ p. and_then_code gives_code (end_of_code n))

pub magic_code : (ms : List ℕ) → IsCode (AreMagicBytes ms)
magic_code [] = gives_code
magic_code (m ∷ ms) = and_then_code (then_code byte_code (λ b. gives_code)) (λ b. magic_code ms)

pub fields_code : (b : Bool) (n : ℕ) (k : RecordType) → IsCode (AreFields b n k)
fields_code b n OfPad = gives_code
fields_code b n OfStart = start_code
fields_code b n OfEnd = end_code b n
fields_code b n OfCellName = seen_code Ok cell_name_code
fields_code b n OfNumberedCellName = seen_code Ok numbered_name_code
fields_code b n OfNumberedCell = seen_code Ok (cell_code true)
fields_code b n OfNamedCell = seen_code Ok (cell_code false)
fields_code b n (OfEntry kind) = entry_code kind
fields_code b n OfText = label_code
fields_code b n OfProperty = property_code
fields_code b n OfLastProperty = gives_code
fields_code b n OfXyAbsolute = gives_code
fields_code b n OfXyRelative = gives_code
fields_code b n OfPlacement = seen_code Ok turned_code
fields_code b n OfScaledPlacement = seen_code Ok scaled_code
fields_code b n OfRectangle = rectangle_code
fields_code b n OfPolygon = polygon_code
fields_code b n OfPath = path_code
fields_code b n OfBlock = block_code
