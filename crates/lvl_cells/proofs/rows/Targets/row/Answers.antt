use Rattle.std.proofs.Common.{◌≡◌, ◌-◌, ◌∙◌, ℕ, List, Some, take, drop, length, sym, ap, subst, arith}
use Rattle.std.specs.List.{slice_get}
use Rattle.lvl_grid.specs.Pieces.{begin_of}
use Rattle.lvl_cells.specs.inside.Rows.{spread, Rises}
use Rattle.lvl_cells.proofs.Runs.{RowAt, row_read, spread_rows_long}
use Rattle.lvl_cells.proofs.rows.Targets.row.Goals as goal

pub begin-start-requires : goal.begin-start-requires
begin-start-requires c =
    omega (
      arith,
      c.deref.ensures.len,
      spread_rows_long c.self.inside.ends.items c.self.inside.runs.items,
      ap length c.self.view_is,
      c.requires,
      c.self.inside.ends.ok.0,
    )

pub index-end-requires : goal.index-end-requires
index-end-requires c =
    omega (
      arith,
      spread_rows_long c.self.inside.ends.items c.self.inside.runs.items,
      ap length c.self.view_is,
      c.requires,
      c.self.inside.ends.ok.0,
    )

row : (c : goal.After-deref-2)
    → RowAt c.self.inside.ends.items c.self.inside.runs.items c.args.cell c.begin-start.result c.index-end.result.now
row c =
    row_read c.self.inside.ends.items c.self.inside.runs.items c.args.cell c.begin-start.result c.index-end.result.now
    (omega (
      arith,
      spread_rows_long c.self.inside.ends.items c.self.inside.runs.items,
      ap length c.self.view_is,
      c.requires,
    ))
    c.self.invariant (c.begin-start.ensures ∙ ap (λ es. begin_of 0 es c.args.cell) c.deref.ensures.value)
    c.index-end.ensures

pub stretch-requires-clause-rising : goal.stretch-requires-clause-rising
stretch-requires-clause-rising c = (row c).rising

pub stretch-requires-clause-inside : goal.stretch-requires-clause-inside
stretch-requires-clause-inside c = rw c.deref-2.ensures.value (row c).inside

-- the runs of the row
runs_are : (c : goal.After-stretch)
    → c.stretch.result.now
    ≡ take (c.index-end.result.now - c.begin-start.result) (drop c.begin-start.result c.self.inside.runs.items)
runs_are c =
    c.stretch.ensures
    ∙ ap (λ rs. take (c.index-end.result.now - c.begin-start.result) (drop c.begin-start.result rs))
    c.deref-2.ensures.value

here : (c : goal.After-stretch)
    → RowAt c.self.inside.ends.items c.self.inside.runs.items c.args.cell c.begin-start.result c.index-end.result.now
here c =
    row_read c.self.inside.ends.items c.self.inside.runs.items c.args.cell c.begin-start.result c.index-end.result.now
    (omega (
      arith,
      spread_rows_long c.self.inside.ends.items c.self.inside.runs.items,
      ap length c.self.view_is,
      c.requires,
    ))
    c.self.invariant (c.begin-start.ensures ∙ ap (λ es. begin_of 0 es c.args.cell) c.deref.ensures.value)
    c.index-end.ensures

pub invariant_of-result : goal.invariant_of-result
invariant_of-result c = subst (Rises 0) (sym (runs_are c)) (here c).rises

pub returns : goal.returns
returns c =
    subst (λ (rows : List (List ℕ)). slice_get rows c.args.cell ≡ Some (spread 0 c.stretch.result.now)) c.self.view_is
    ((here c).value ∙ ap (λ rs. Some (spread 0 rs)) (sym (runs_are c)))
