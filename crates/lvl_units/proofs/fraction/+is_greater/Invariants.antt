use Rattle.std.proofs.Common.{◌+◌}
use Rattle.lvl_units.proofs.fraction.+is_greater.Given as goal

-- what is left is less than what it is left of
abbrev pub decreases-is_greater : goal.decreases-is_greater
decreases-is_greater l = l.b + l.d
