use Rattle.std.proofs.Common.{◌-◌}
use Rattle.lvl_columns.proofs.columns.+compared.Given as goal

-- the number of columns that may still be made
abbrev pub decreases-compared : goal.decreases-compared
decreases-compared l = l.most - l.known.columns
