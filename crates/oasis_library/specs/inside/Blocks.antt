-- What was read of a block.
use Rattle.std.specs.Prelude.{◌≡◌, ℕ, List, [], ◌∷◌, ◌++◌, length}
use Rattle.lvl_refusal.specs.declared.Cause.{Cause}
use Rattle.lvl_refusal.specs.declared.Cause.TheVariants.{Breach, OutOfMemory}
use Rattle.lvl_grammar.specs.Front.{SpellsWhole}
use Rattle.lvl_profile.specs.declared.profile.Profile.{Profile}
use Rattle.oasis_blocks.specs.declared.fault.BlockRule.{BlockRule}
use Rattle.oasis_records.specs.declared.record.Record.{Record}
use Rattle.oasis_stream.specs.Items.{Item, item, as_packed}
use Rattle.oasis_stream.specs.Blocks.{inside}
use Rattle.oasis_stream.specs.Front.{Keeps}
use Rattle.oasis_stream.specs.inside.Within.{within_block}
use Rattle.oasis_stream.specs.declared.fault.OasisKind.{OasisKind}
use Rattle.oasis_stream.specs.declared.fault.OasisKind.TheVariants.{Block}
use Rattle.oasis_library.specs.inside.Holds.{Holds, HasRead}
use Rattle.oasis_library.specs.declared.reading.Reading.{Reading}

-- a rule of blocks as one of the file
abbrev pub of_block : Cause BlockRule → Cause OasisKind
of_block (Breach k) = Breach (Block k)
of_block OutOfMemory = OutOfMemory

-- a refusal of the bytes inside a block as that of the block
abbrev pub in_block : Cause OasisKind → Cause OasisKind
in_block (Breach k) = Breach (within_block k)
in_block OutOfMemory = OutOfMemory

-- the records so far were read, and those that all bytes of a block spell
abbrev pub HasMoreInside : Profile → List Record → List ℕ → Reading → Type 0
HasMoreInside profile rs ys x =
    (more : List Record) × SpellsWhole (inside profile rs (length ys)) ys more × Holds x (rs ++ more)

-- the items were read, and one that is packed as the record
abbrev pub IsKept : Profile → List Item → Record → Reading → Type 0
IsKept profile is r x =
    (i : Item) × (as_packed i ≡ item r) × Keeps profile is i × HasRead profile x (is ++ i ∷ [])
