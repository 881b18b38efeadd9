-- Compressed blocks (SEMI P39 OASIS 1.0, "CBLOCK record"): after the type of compression the number of bytes unpacked,
-- the number of bytes packed, and as many packed bytes. The last two are the fields of a b-string.
use Rattle.std.specs.Prelude.{ℕ}
use Rattle.oasis_values.specs.Known.{Seen}
use Rattle.oasis_values.specs.Numbers.{IsUnsigned}
use Rattle.oasis_values.specs.Spelling.{Spelling, Then}
use Rattle.oasis_values.specs.Texts.{IsString}
use Rattle.oasis_values.specs.declared.text.Text.TheVariants.{B}
use Rattle.oasis_blocks.specs.Packed.{Packed, packed}

-- as many packed bytes as an unsigned integer can say
abbrev pub most_packed : ℕ
most_packed = 18446744073709551615

-- the count of bytes, and the packed bytes
abbrev pub IsPacked : Spelling Packed
IsPacked = Then IsUnsigned (λ count. Seen (packed count) (IsString B most_packed))
