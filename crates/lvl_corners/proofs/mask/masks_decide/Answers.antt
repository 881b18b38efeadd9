use Rattle.lvl_corners.specs.Masks.{tested}
use Rattle.lvl_corners.proofs.Masks.{digests_decide}
use Rattle.lvl_corners.proofs.mask.masks_decide.Goals as goal

pub returns : goal.returns
returns c first second = digests_decide (tested first) (tested second)
