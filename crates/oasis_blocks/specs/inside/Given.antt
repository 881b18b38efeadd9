-- The bytes that a reader of a block still gives.
use Rattle.std.specs.Prelude.{ℕ, List, drop, Option, Some}
use Rattle.lvl_inflate.specs.Inflates.{left_of}
use Rattle.oasis_blocks.specs.declared.stored.Stored.{Stored}
use Rattle.oasis_blocks.specs.declared.unpacked.Source.{Source}
use Rattle.oasis_blocks.specs.declared.unpacked.Source.TheVariants.{Plain, Packed}

-- those in memory that were not given yet
abbrev pub rest_of : Stored → List ℕ
rest_of stored = drop stored.given stored.bytes.items

abbrev pub known_rest : Stored → Option (List ℕ)
known_rest stored = Some (rest_of stored)

-- those in memory, or those that packed bytes spell, if they spell any
abbrev pub bytes_in : Source → Option (List ℕ)
bytes_in (Plain stored) = known_rest stored
bytes_in (Packed inflate) = left_of known_rest inflate.value
