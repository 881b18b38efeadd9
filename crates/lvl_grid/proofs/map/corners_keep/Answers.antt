use Rattle.lvl_grid.proofs.Corners.{corners_keep}
use Rattle.lvl_grid.proofs.map.corners_keep.Goals as goal

pub returns : goal.returns
returns c m s p = corners_keep m s p
