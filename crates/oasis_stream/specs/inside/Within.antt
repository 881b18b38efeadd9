-- Faults of the bytes inside a block, as faults of the block.
use Rattle.oasis_values.specs.declared.fault.ValueFault.TheVariants.{Truncated}
use Rattle.oasis_blocks.specs.declared.fault.BlockRule.TheVariants.{BlockLength}
use Rattle.oasis_stream.specs.declared.fault.OasisKind.{OasisKind}
use Rattle.oasis_stream.specs.declared.fault.OasisKind.TheVariants.{Value, Block}

-- a block that ends within a record has too few bytes
abbrev pub within_block : OasisKind → OasisKind
within_block (Value Truncated) = Block BlockLength
within_block k = k
