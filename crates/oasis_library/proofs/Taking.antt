-- What a record that was taken adds to a cell.
use Rattle.std.proofs.Common.{◌≡◌, List, [], ◌∷◌, ◌++◌, map, Some, None, sym, ap, ◌∙◌, if◌then◌else◌}
use Rattle.std.specs.Prelude.{Option, is_some, unwrap_or}
use Rattle.std.proofs.lemmas.List.{append-nil}
use Rattle.lvl_grid.specs.declared.map.Map.{Map}
use Rattle.lvl_grid.specs.declared.point.Point.{Point}
use Rattle.lvl_cells.specs.Cells.{PlainShape, Rings}
use Rattle.lvl_profile.specs.declared.ignore.Ignore.{Ignore}
use Rattle.oasis_records.specs.declared.cell.CellRef.{CellRef}
use Rattle.oasis_records.specs.declared.cell.CellRef.TheVariants.{Number}
use Rattle.oasis_records.specs.declared.record.Record.{Record}
use Rattle.oasis_records.specs.declared.record.Record.TheVariants.{Placement}
use Rattle.oasis_figures.specs.Figures.{Placed, shapes_of, placements_of, shifts_of, in_rings, placements_in, shapes_in}
use Rattle.oasis_figures.specs.Figures.{cell_of}
use Rattle.oasis_figures.specs.Modal.{modal, cell_set}
use Rattle.oasis_figures.specs.Rules.{BreachesNone, first_undefined, is_defined, of_repetition}
use Rattle.oasis_figures.specs.declared.drawn.DrawnRecord.{DrawnRecord}
use Rattle.oasis_figures.specs.declared.drawn.DrawnRecord.TheVariants.{Placement as Placing}
use Rattle.oasis_figures.specs.declared.modal.Modal.{Modal}
use Rattle.oasis_figures.specs.declared.rule.FigureRule.TheVariants.{Undefined}
use Rattle.oasis_figures.specs.declared.variable.Variable.TheVariants.{PlacementCell}
use Rattle.oasis_library.specs.Cells.{PlainDrawing}
use Rattle.oasis_library.specs.inside.Kept.{placed}
use Rattle.oasis_library.specs.inside.Taken.{IsTaken, grown}

-- a PLACEMENT whose cell is undefined breaches a rule
unknown_cell : (ignore : Ignore) (earlier : List Record) (r : Record) (x : Placed) (xs : List Placed)
    → x ∷ xs ≡ placements_of earlier r
    → BreachesNone ignore earlier r → modal cell_set (r ∷ earlier) ≡ None → ⊥
unknown_cell ignore earlier (Placement p) x xs e none h =
    none (Undefined PlacementCell)
    (ap (λ o. if is_some o then first_undefined (is_defined (Placement p ∷ earlier))
    (of_repetition p.position.repetition) else Some PlacementCell) h)
unknown_cell ignore earlier _ x xs e none h = cc

-- the cell of a placement is defined
pub known_cell : (earlier : List Record) (r : Record) (by : Map) (m : Modal) → IsTaken earlier r (Some (Placing by)) m
    → modal cell_set (r ∷ earlier) ≡ None → ⊥
known_cell earlier r by m t h = unknown_cell t.none.0 earlier r _ [] t.draws.placements t.none.1 h

abbrev a_kept : CellRef → List (PlainShape Rings) → List Placed → PlainDrawing Rings
a_kept name shapes placements = record { name = name; shapes = shapes; placements = placements }

-- what is drawn is added
pub taken_grown : (earlier : List Record) (r : Record) (drawn : Option DrawnRecord) (m : Modal) (d : PlainDrawing Rings)
    → IsTaken earlier r drawn m
    → a_kept d.name (d.shapes ++ shapes_in (shifts_of earlier r) drawn)
    (d.placements ++ placements_in (cell_of (r ∷ earlier)) (shifts_of earlier r) drawn) ≡ grown earlier r d
taken_grown earlier r drawn m d t =
    ap (λ s. a_kept d.name (d.shapes ++ s) (d.placements ++ placements_in (cell_of (r ∷ earlier)) (shifts_of earlier r)
    drawn)) t.draws.shapes
    ∙ ap (λ p. a_kept d.name (d.shapes ++ map in_rings (shapes_of earlier r)) (d.placements ++ p)) t.draws.placements

-- a placement is added
pub placed_grown : (earlier : List Record) (r : Record) (by : Map) (m : Modal) (d : PlainDrawing Rings) (p : Placed)
    (cell : CellRef) (shifts : List Point) → IsTaken earlier r (Some (Placing by)) m
    → Some cell ≡ modal cell_set (r ∷ earlier) → shifts ≡ shifts_of earlier r → p ≡ placed cell by shifts
    → a_kept d.name d.shapes (d.placements ++ p ∷ []) ≡ grown earlier r d
placed_grown earlier r by m d p cell shifts t e f g =
    let this : p ≡ placed (cell_of (r ∷ earlier)) by (shifts_of earlier r) = g ∙ ap (λ c. placed c by shifts)
    (ap (λ o. unwrap_or o (Number 0)) e) ∙ ap (λ s. placed (cell_of (r ∷ earlier)) by s) f in
    ap (λ s. a_kept d.name s (d.placements ++ p ∷ [])) (sym (append-nil d.shapes))
    ∙ ap (λ (q : Placed). a_kept d.name (d.shapes ++ []) (d.placements ++ q ∷ [])) this
    ∙ taken_grown earlier r (Some (Placing by)) m d t
