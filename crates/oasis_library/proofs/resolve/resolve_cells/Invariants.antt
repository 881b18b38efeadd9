use Rattle.std.proofs.Common.{◌≡◌, ◌++◌, List}
use Rattle.std.specs.Global.{Vec}
use Rattle.std.specs.Prelude.{flat_map}
use Rattle.lvl_cells.specs.Cells.{Rings}
use Rattle.oasis_records.specs.declared.cell.CellName.{CellName}
use Rattle.oasis_library.specs.Cells.{PlainDrawing}
use Rattle.oasis_library.specs.Names.{AreCells}
use Rattle.oasis_library.specs.inside.Holds.{HoldsNames}
use Rattle.oasis_library.proofs.resolve.resolve_cells.Given as goal

-- the cells so far are those of the pieces so far
abbrev pub invariant-loop-piece : goal.invariant-loop-piece
invariant-loop-piece l = record {
  all : flat_map (λ (p : Vec (PlainDrawing Rings)). p.items) (l.yielded ++ l.piece-iterator.rest.items)
      ≡ l.fn.drawings;
  cells : (given : List CellName) → HoldsNames l.names given
      → AreCells given (flat_map (λ (p : Vec (PlainDrawing Rings)). p.items) l.yielded) l.cells.items;
}
