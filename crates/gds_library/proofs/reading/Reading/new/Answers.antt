use Rattle.gds_library.proofs.Streams.{holds_begin}
use Rattle.gds_library.proofs.reading.Reading.new.Goals as goal

pub returns-clause-none : goal.returns-clause-none
returns-clause-none c = holds_begin c.new.result c.new.ensures.stage c.new.ensures.shown c.new.ensures.version
