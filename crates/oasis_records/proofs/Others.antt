-- The spelling of each other record is prefix-free, and there are bytes that spell it.
use Rattle.std.proofs.Common.{ℕ, ◌/◌, ◌%◌, Bool, true, false, Ok}
use Rattle.oasis_values.proofs.Codes.{gives_code, then_code, chain_code, seen_code, IsCode}
use Rattle.oasis_values.proofs.Integers.{byte_code, unsigned_code}
use Rattle.oasis_values.proofs.Values.{real_code, string_code}
use Rattle.oasis_values.specs.declared.text.Text.TheVariants.{A, N}
use Rattle.oasis_blocks.proofs.Codes.{packed_code}
use Rattle.oasis_records.specs.Blocks.{IsBlockOf, IsBlock}
use Rattle.oasis_records.specs.Fields.{has}
use Rattle.oasis_records.specs.Cells.{IsCellRef, IsCell, unnumbered, IsCellName, numbered, IsNumberedName}
use Rattle.oasis_records.specs.Placements.{turn_of, placement, IsCellIf, IsTurnedOf, IsTurned, IsScaledOf, IsScaled}
use Rattle.oasis_records.specs.Starts.{IsVersionText, IsVersion, IsUnit, IsFlag, AreOffsets, AreTables, start, is_here}
use Rattle.oasis_records.specs.Starts.{IsStartOf, IsStart}
use Rattle.oasis_records.specs.declared.cell.CellRef.TheVariants.{Number, Name}
use Rattle.oasis_records.specs.declared.placement.Transform.TheVariants.{Turned, Scaled}
use Rattle.oasis_records.specs.declared.record.Record.TheVariants.{Cell, Block}
use Rattle.oasis_records.proofs.Codes.{if_code, position_code}
use Rattle.oasis_records.proofs.Ruling.{and_then_code}

pub cell_ref_code : (b : Bool) → IsCode (IsCellRef b)
cell_ref_code true = seen_code Number unsigned_code
cell_ref_code false = seen_code Name (string_code N 255)

pub cell_code : (b : Bool) → IsCode (IsCell b)
cell_code b = seen_code Cell (cell_ref_code b)

pub cell_name_code : IsCode IsCellName
cell_name_code = seen_code unnumbered (string_code N 255)

pub numbered_name_code : IsCode IsNumberedName
numbered_name_code = then_code (string_code N 255) (λ n. seen_code (numbered n) unsigned_code)

pub cell_if_code : (i : ℕ) → IsCode (IsCellIf i)
cell_if_code i = if_code (has i 0x80) (cell_ref_code (has i 0x40))

pub turned_of_code : (i : ℕ) → IsCode (IsTurnedOf i)
turned_of_code i =
    then_code (cell_if_code i) (λ c. seen_code (placement i c (Turned (turn_of (i / 2 % 4)))) (position_code (i / 2)))

pub scaled_of_code : (i : ℕ) → IsCode (IsScaledOf i)
scaled_of_code i =
    then_code (cell_if_code i) (λ c.
    then_code (if_code (has i 0x04) real_code) (λ m.
    then_code (if_code (has i 0x02) real_code) (λ a. seen_code (placement i c (Scaled m a)) (position_code (i / 2)))))

pub turned_code : IsCode IsTurned
turned_code = then_code byte_code turned_of_code

pub scaled_code : IsCode IsScaled
scaled_code = then_code byte_code scaled_of_code

pub version_text_code : IsCode IsVersionText
version_text_code = seen_code Ok (string_code A 255)

pub version_code : IsCode IsVersion
version_code = and_then_code version_text_code (λ t. gives_code)

pub unit_code : IsCode IsUnit
unit_code = then_code real_code (λ u. gives_code)

pub flag_code : IsCode IsFlag
flag_code = then_code unsigned_code (λ f. gives_code)

pub offsets_code : IsCode AreOffsets
offsets_code = seen_code (λ _. true) (chain_code (λ n. n) 12 0 (λ _. unsigned_code))

pub tables_code : (b : Bool) → IsCode (AreTables b)
tables_code true = offsets_code
tables_code false = gives_code

pub start_of_code : IsCode IsStartOf
start_of_code =
    and_then_code unit_code (λ u. and_then_code flag_code (λ f. seen_code (start u) (tables_code (is_here f))))

pub start_code : IsCode IsStart
start_code = and_then_code version_code (λ _. start_of_code)

pub block_of_code : IsCode IsBlockOf
block_of_code = seen_code Block packed_code

pub block_code : IsCode IsBlock
block_code = and_then_code (then_code unsigned_code (λ k. gives_code)) (λ _. seen_code Ok block_of_code)
