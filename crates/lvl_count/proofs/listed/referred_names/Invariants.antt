use Rattle.std.proofs.Common.{take}
use Rattle.lvl_count.specs.inside.Referring.{HasReferred}
use Rattle.lvl_count.proofs.listed.referred_names.Given as goal

-- the set has the names to which the cells so far refer
abbrev pub invariant-loop-cell : goal.invariant-loop-cell
invariant-loop-cell l = HasReferred l.referred (take l.cell-index l.cells)
