use Rattle.oasis_stream.specs.Items.{records}
use Rattle.oasis_library.proofs.Inside.{block_says, block_kept, record_says, record_taken, not_block}
use Rattle.oasis_library.proofs.blocks.take_moved.Goals as goal

pub returns-in-Block : goal.returns-in-Block
returns-in-Block c = record {
  refused = block_says c.args.profile c.args.reading.now c.args.next c.in-Block.packed c.in-Block.is
      c.take_block.result c.take_block.ensures.refused;
  kept = block_kept c.args.profile c.args.reading.now c.take_block.new.reading c.args.next c.in-Block.packed
      c.in-Block.is c.take_block.result c.take_block.ensures.kept;
}

pub take-requires : goal.take-requires
take-requires c = (records c.requires.0, c.requires.1.holds)

pub returns-in_default : goal.returns-in_default
returns-in_default c = record {
  refused = record_says c.args.profile c.args.reading.now c.args.next c.take.result c.take.ensures.refused;
  kept = record_taken c.args.profile c.args.reading.now c.take.new.self c.args.next
      (not_block c.args.next c.in_default.not-Block) c.take.result c.take.ensures.kept c.take.ensures.none
      c.take.ensures.room;
}
