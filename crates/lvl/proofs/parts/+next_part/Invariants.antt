use Rattle.std.proofs.Common.{◌-ℤ◌, nat_abs}
use Rattle.lvl.proofs.parts.+next_part.Given as goal

-- narrower strips are tried
abbrev pub decreases-next_part : goal.decreases-next_part
decreases-next_part l = nat_abs (l.end -ℤ l.from)
