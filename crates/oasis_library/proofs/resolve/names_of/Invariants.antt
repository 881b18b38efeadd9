use Rattle.std.proofs.Common.{◌≡◌, take, List, vec_len}
use Rattle.std.specs.List.{AllZip}
use Rattle.oasis_records.specs.declared.cell.CellName.{CellName}
use Rattle.oasis_library.specs.inside.Holds.{HoldsNames}
use Rattle.oasis_library.specs.inside.Resolved.{IsNameOf}
use Rattle.oasis_library.proofs.resolve.names_of.Given as goal

-- the names so far are those of the targets so far
abbrev pub invariant-loop-target : goal.invariant-loop-target
invariant-loop-target l = record {
  many : vec_len l.named ≡ l.target-index;
  are : (given : List CellName) → HoldsNames l.names given
      → AllZip (IsNameOf given) (take l.target-index l.targets) l.named.items;
}
