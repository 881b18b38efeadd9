use Rattle.std.proofs.Common.{rules}
use Rattle.lvl_corners.specs.Bytes.{layer_head}
use Rattle.lvl_corners.proofs.digest.head_of.Goals as goal

pub returns : goal.returns
unfolding layer_head
returns c = search rules
