-- CBLOCK records (SEMI P39 OASIS 1.0, "CBLOCK record"): a type of compression, and a block as it is packed. The type 0
-- is DEFLATE, and there is no other.
use Rattle.std.specs.Prelude.{ℕ, ◌==◌, Result, Ok}
use Rattle.oasis_values.specs.Known.{Seen}
use Rattle.oasis_values.specs.Numbers.{IsUnsigned}
use Rattle.oasis_values.specs.Spelling.{Spelling, Then}
use Rattle.oasis_blocks.specs.Blocks.{IsPacked}
use Rattle.oasis_records.specs.Rules.{Must, AndThen}
use Rattle.oasis_records.specs.declared.fault.RecordRule.{RecordRule}
use Rattle.oasis_records.specs.declared.fault.RecordRule.TheVariants.{CompressionType}
use Rattle.oasis_records.specs.declared.record.Record.{Record}
use Rattle.oasis_records.specs.declared.record.Record.TheVariants.{Block}

-- the type of compression
abbrev pub IsCompression : Spelling (Result ℕ RecordRule)
IsCompression = Then IsUnsigned (λ kind. Must (kind == 0) kind CompressionType)

-- the fields after it
abbrev pub IsBlockOf : Spelling Record
IsBlockOf = Seen Block IsPacked

-- the fields of a CBLOCK
abbrev pub IsBlock : Spelling (Result Record RecordRule)
IsBlock = AndThen IsCompression (λ _. Seen Ok IsBlockOf)
