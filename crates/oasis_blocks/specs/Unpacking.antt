-- What a block has, unpacked, and why it has nothing (SEMI P39 OASIS 1.0, "CBLOCK record"; RFC 1951).
use Rattle.std.specs.Prelude.{◌≡◌, ◌≢◌, ℕ, ◌<◌, ◌≤◌, List, length, Some, None}
use Rattle.lvl_inflate.specs.Streams.{inflated}
use Rattle.oasis_blocks.specs.Packed.{Packed}
use Rattle.oasis_blocks.specs.declared.fault.BlockRule.{BlockRule}
use Rattle.oasis_blocks.specs.declared.fault.BlockRule.TheVariants.{TooLong, Deflate, BlockLength}

-- the block has these bytes: the packed bytes are one stream that spells them, and there are as many as it says
pub record Unpacks (p : Packed) (ys : List ℕ) : Type 0 where
  pub spelled : inflated p.bytes ≡ Some ys
  pub counted : length ys ≡ p.count

-- the block breaches the rule, if only so many unpacked bytes are left within the limit. Own rule: where the packed
-- bytes spell nothing, either of the last two can be reported, by what is seen first
abbrev pub Breaches : ℕ → Packed → BlockRule → Type 0
Breaches room p TooLong = room < p.count
Breaches room p Deflate = (p.count ≤ room) × (inflated p.bytes ≡ None)
Breaches room p BlockLength = (p.count ≤ room) × ((ys : List ℕ) → inflated p.bytes ≡ Some ys → length ys ≢ p.count)

-- the block has no bytes, or more than are left within the limit
abbrev pub UnpacksNone : ℕ → Packed → Type 0
UnpacksNone room p = (ys : List ℕ) → Unpacks p ys → room < length ys
