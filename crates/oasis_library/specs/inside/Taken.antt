-- What a record adds to a cell.
use Rattle.std.specs.Prelude.{List, ◌∷◌, ◌++◌, map, Option}
use Rattle.lvl_cells.specs.Cells.{Rings}
use Rattle.lvl_profile.specs.declared.ignore.Ignore.{Ignore}
use Rattle.oasis_records.specs.declared.record.Record.{Record}
use Rattle.oasis_figures.specs.Figures.{shapes_of, placements_of, shifts_of, in_rings, IsDrawn, PlacesFit}
use Rattle.oasis_figures.specs.Keeping.{StandsFor}
use Rattle.oasis_figures.specs.Rules.{BreachesNone}
use Rattle.oasis_figures.specs.declared.drawn.DrawnRecord.{DrawnRecord}
use Rattle.oasis_figures.specs.declared.modal.Modal.{Modal}
use Rattle.oasis_library.specs.Cells.{PlainDrawing}

-- the modal variables are those after the record, and `drawn` is what it draws after the records before it in its cell;
-- it breaches no rule, whatever is ignored of it
pub record IsTaken (earlier : List Record) (r : Record) (drawn : Option DrawnRecord) (m : Modal) : Type 0 where
  pub stands : StandsFor m (r ∷ earlier)
  pub draws : IsDrawn earlier r drawn
  pub fits : PlacesFit (shifts_of earlier r) drawn
  pub none : (ignore : Ignore) × BreachesNone ignore earlier r

-- a cell with what the record draws added
abbrev pub grown : List Record → Record → PlainDrawing Rings → PlainDrawing Rings
grown earlier r d = record {
  name = d.name;
  shapes = d.shapes ++ map in_rings (shapes_of earlier r);
  placements = d.placements ++ placements_of earlier r;
}
