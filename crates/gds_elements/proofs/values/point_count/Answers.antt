use Rattle.std.proofs.Common.{sym}
use Rattle.gds_elements.proofs.Points.{length-points}
use Rattle.gds_elements.proofs.values.point_count.Goals as goal

pub returns-clause-count : goal.returns-clause-count
returns-clause-count c = sym (length-points c.args.payload.now)
