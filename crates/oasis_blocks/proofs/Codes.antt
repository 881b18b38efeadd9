-- The laws of the spelling of a block.
use Rattle.std.proofs.Common.{ℕ}
use Rattle.oasis_values.proofs.Codes.{IsCode, seen_code, then_code}
use Rattle.oasis_values.proofs.Integers.{unsigned_code}
use Rattle.oasis_values.proofs.Values.{string_code}
use Rattle.oasis_values.specs.Known.{Seen}
use Rattle.oasis_values.specs.Texts.{IsString}
use Rattle.oasis_values.specs.declared.text.Text.TheVariants.{B}
use Rattle.oasis_blocks.specs.Blocks.{IsPacked, most_packed}
use Rattle.oasis_blocks.specs.Packed.{packed}

pub packed_of_code : (count : ℕ) → IsCode (Seen (packed count) (IsString B most_packed))
packed_of_code count = seen_code (packed count) (string_code B most_packed)

pub packed_code : IsCode IsPacked
packed_code = then_code unsigned_code packed_of_code
