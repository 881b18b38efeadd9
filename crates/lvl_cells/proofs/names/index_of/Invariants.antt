use Rattle.std.proofs.Common.{take}
use Rattle.std.specs.List.{IsDistinct}
use Rattle.std.specs.Str.{bytes_eq}
use Rattle.lvl_cells.specs.Cells.{names}
use Rattle.lvl_cells.specs.Resolving.{IsIndexOf}
use Rattle.lvl_cells.proofs.names.index_of.Given as goal

-- the names so far are distinct, and the index has them
abbrev pub invariant-loop-i : goal.invariant-loop-i
invariant-loop-i l = record {
  distinct : IsDistinct bytes_eq (take l.i (names l.cells));
  index : IsIndexOf (take l.i (names l.cells)) l.index;
}
