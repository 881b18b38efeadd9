use Rattle.oasis_stream.specs.Items.{records}
use Rattle.oasis_library.proofs.Inside.{record_says, record_taken, not_block}
use Rattle.oasis_library.proofs.blocks.take_next.Goals as goal

pub take-requires : goal.take-requires
take-requires c = (records c.requires.0, c.requires.1.holds)

pub returns-in_default : goal.returns-in_default
returns-in_default c = record {
  refused = record_says c.args.profile c.args.reading.now c.args.next.now c.take.result c.take.ensures.refused;
  kept = record_taken c.args.profile c.args.reading.now c.take.new.self c.args.next.now
      (not_block c.args.next.now c.in_default.not-Block) c.take.result c.take.ensures.kept c.take.ensures.none
      c.take.ensures.room;
}
