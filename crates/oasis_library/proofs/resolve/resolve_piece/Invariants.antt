use Rattle.std.proofs.Common.{◌≡◌, ◌++◌, List}
use Rattle.oasis_records.specs.declared.cell.CellName.{CellName}
use Rattle.oasis_library.specs.Names.{AreCells}
use Rattle.oasis_library.specs.inside.Holds.{HoldsNames}
use Rattle.oasis_library.proofs.resolve.resolve_piece.Given as goal

-- the cells so far are those of the drawings so far
abbrev pub invariant-loop-drawing : goal.invariant-loop-drawing
invariant-loop-drawing l = record {
  all : l.yielded ++ l.drawing-iterator.rest.items ≡ l.fn.drawings.items;
  cells : (given : List CellName) → HoldsNames l.names given → AreCells given l.yielded l.cells.items;
}
