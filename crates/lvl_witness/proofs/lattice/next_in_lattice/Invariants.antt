use Rattle.std.proofs.Common.{◌*◌, Some}
use Rattle.lvl_witness.specs.inside.Areas.{AreApart}
use Rattle.lvl_witness.proofs.lattice.next_in_lattice.Given as goal

-- no shift of the rows before this one is in the area
abbrev pub invariant-loop-row : goal.invariant-loop-row
invariant-loop-row l = AreApart l.shifts l.from (l.row * l.lattice.columns) (Some l.area)
