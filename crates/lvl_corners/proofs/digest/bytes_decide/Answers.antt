use Rattle.lvl_corners.proofs.Spelling.{bytes_decide}
use Rattle.lvl_corners.proofs.digest.bytes_decide.Goals as goal

pub returns : goal.returns
returns c = bytes_decide
