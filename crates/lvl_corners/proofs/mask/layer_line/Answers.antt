use Rattle.std.proofs.Common.{rules}
use Rattle.lvl_corners.proofs.mask.layer_line.Goals as goal

pub returns : goal.returns
returns c = search (rules, c.in_ok-sha256.ensures)
