-- The letter `a` as zlib packs it, in blocks that say that they have one byte or two: what the definitions compute.
use Rattle.std.proofs.Common.{◌≡◌, ℕ, List, [], ◌∷◌, Some, None, refl, arith, length, sym, ◌∙◌, ap}
use Rattle.lvl_inflate.specs.Bits.{up_to, number}
use Rattle.lvl_inflate.specs.Codes.{next_symbol}
use Rattle.lvl_inflate.specs.Items.{copy_counts, copy_distances, next_item, byte_back}
use Rattle.lvl_inflate.specs.Blocks.{fixed_codes, length_order, length_code, run_of, coded_lengths}
use Rattle.lvl_inflate.specs.Blocks.{dynamic_codes}
use Rattle.lvl_inflate.specs.Blocks.{stored_body, header}
use Rattle.lvl_inflate.specs.Streams.{block, stream, bytes_by, inflated}
use Rattle.oasis_blocks.specs.Packed.{packed}
use Rattle.oasis_blocks.specs.Unpacking.{Unpacks, Breaches}
use Rattle.oasis_blocks.specs.declared.fault.BlockRule.TheVariants.{TooLong, Deflate, BlockLength}

abbrev letter : List ℕ
letter = 75 ∷ 4 ∷ 0 ∷ []

spells_a : inflated letter ≡ Some (97 ∷ [])
unfolding inflated bytes_by stream block header stored_body dynamic_codes coded_lengths run_of length_code length_order fixed_codes up_to next_item next_symbol number copy_counts copy_distances byte_back
spells_a = refl

cut_off : inflated (75 ∷ 4 ∷ []) ≡ None
unfolding inflated bytes_by stream block header stored_body dynamic_codes coded_lengths run_of length_code length_order fixed_codes up_to next_item next_symbol number copy_counts copy_distances byte_back
cut_off = refl

-- one byte
rightly_counted : Unpacks (packed 1 letter) (97 ∷ [])
rightly_counted = record { spelled = spells_a; counted = refl }

-- two bytes, of which one is missing
wrongly_counted : Breaches 5 (packed 2 letter) BlockLength
wrongly_counted = (
  omega arith,
  λ ys e two.
      let same : Some ys ≡ Some (97 ∷ []) = sym e ∙ spells_a in
      let one : ys ≡ 97 ∷ [] = cc in
      omega (arith, ap length one, two),
)

-- one byte, of packed bytes that are cut off
malformed : Breaches 5 (packed 1 (75 ∷ 4 ∷ [])) Deflate
malformed = (omega arith, cut_off)

-- one byte, where none is left within the limit
past_the_limit : Breaches 0 (packed 1 letter) TooLong
past_the_limit = omega arith
