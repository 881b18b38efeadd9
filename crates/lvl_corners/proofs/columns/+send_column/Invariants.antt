use Rattle.std.proofs.Common.{◌-◌}
use Rattle.lvl_corners.proofs.columns.+send_column.Given as goal

abbrev pub decreases-send_column : goal.decreases-send_column
decreases-send_column g l = 64 - l.depth
