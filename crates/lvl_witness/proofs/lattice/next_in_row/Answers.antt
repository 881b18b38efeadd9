use Rattle.std.proofs.Common.{◌≡◌, ◌<◌, ◌+◌, ◌*◌, slice_get, Some, None, sym, subst, ◌∙◌, arith}
use Rattle.lvl_names.specs.Shifts.{lattice, steps}
use Rattle.lvl_witness.specs.declared.lattice.Lattice.{Lattice}
use Rattle.lvl_witness.proofs.InRows.{at_column, row_inside}
use Rattle.lvl_witness.proofs.lattice.next_in_row.Goals as goal
use Rattle.lvl_witness.proofs.lattice.next_in_row.Goals.{then-column-columns-via-then-column-columns}
use Rattle.lvl_witness.proofs.lattice.next_in_row.Goals.{then-column-columns-via-else-column-columns+then-column-lattice}

pub unreachable-requires : goal.unreachable-requires
unreachable-requires c =
    let l : Lattice = c.args.lattice.now in
    let zero : c.args.row * l.columns + 0 ≡ c.args.row * l.columns = omega arith in
    let some : slice_get c.args.shifts.now (c.args.row * l.columns) ≡ Some (steps l.across 0 l.up c.args.row) =
    subst (λ ps. slice_get ps (c.args.row * l.columns) ≡ Some (steps l.across 0 l.up c.args.row))
    (sym c.requires.lattice.is)
    (subst (λ x. slice_get (lattice l.across l.columns l.up l.rows) x ≡ Some (steps l.across 0 l.up c.args.row)) zero
    (at_column l.across l.columns l.up l.rows c.args.row 0 c.requires.row c.requires.lattice.kept.columns)) in
    let none : slice_get c.args.shifts.now (c.args.row * l.columns) ≡ None = sym c.at.ensures ∙ c.in_default.is in
    cc

pub returns-then-column-columns-clause-none : goal.returns-then-column-columns-clause-none
returns-then-column-columns-clause-none c = λ k e on below at inside.
    let l : Lattice = c.args.lattice.now in
    let first : slice_get c.args.shifts.now (c.args.row * l.columns) ≡ Some c.in-Some.first =
    sym c.at.ensures ∙ c.in-Some.is in
    let s =
    row_inside c.args.shifts.now l c.args.area.now c.steps_within-columns.result c.in-Some.first c.args.row k e
    c.requires.lattice c.requires.row first c.steps_within-columns.ensures (omega (arith, c.requires.from, on)) below at
    inside in
    elim c.then-column-columns.branch [
      | then-column-columns-via-then-column-columns w ↦
          absurd (omega (arith, s.from, s.to, c.max-column.ensures, w.if-column-columns.true, on))
      | then-column-columns-via-else-column-columns+then-column-lattice w ↦
          absurd (omega (arith, s.from, c.max-column.ensures, w.if-column-lattice.true, on, below))
    ]

pub returns-clause-some : goal.returns-clause-some
returns-clause-some c = λ k e on below at inside.
    let l : Lattice = c.args.lattice.now in
    let first : slice_get c.args.shifts.now (c.args.row * l.columns) ≡ Some c.in-Some.first =
    sym c.at.ensures ∙ c.in-Some.is in
    let to : k < (c.args.row + 1) * l.columns = omega (arith, below, c.if-column-lattice.false) in
    let s =
    row_inside c.args.shifts.now l c.args.area.now c.steps_within-columns.result c.in-Some.first c.args.row k e
    c.requires.lattice c.requires.row first c.steps_within-columns.ensures (omega (arith, c.requires.from, on)) to at
    inside in
    omega (arith, s.from, c.max-column.ensures, on, below)
