-- How the bytes of a stream are counted.
use Rattle.std.specs.Prelude.{◌≡◌, ◌≢◌, ℕ, List, length, Option, Some, None}
use Rattle.oasis_blocks.specs.declared.fault.BlockRule.{BlockRule}
use Rattle.oasis_blocks.specs.declared.fault.BlockRule.TheVariants.{TooLong, Deflate, BlockLength}

-- there are bytes, and as many as counted
pub record HasCounted (known : Option (List ℕ)) (count : ℕ) : Type 0 where
  pub bytes : List ℕ
  pub known_is : known ≡ Some bytes
  pub counted : length bytes ≡ count

-- there are none, or another number of them
abbrev pub Miscounts : Option (List ℕ) → ℕ → BlockRule → Type 0
Miscounts known count TooLong = ⊥
Miscounts known count Deflate = known ≡ None
Miscounts known count BlockLength = (ys : List ℕ) → known ≡ Some ys → length ys ≢ count
