use Rattle.std.proofs.Common.{◌≡◌, ◌+◌, ◌-◌, ◌*◌, slice_get, Some, None, sym, subst, ◌∙◌, arith}
use Rattle.lvl_grid.specs.declared.point.Point.{Point}
use Rattle.lvl_names.specs.Shifts.{lattice, steps}
use Rattle.lvl_witness.specs.declared.lattice.Lattice.{Lattice}
use Rattle.lvl_witness.proofs.InRows.{at_column, rows_inside}
use Rattle.lvl_witness.proofs.lattice.rows_within.Goals as goal

pub unreachable-requires : goal.unreachable-requires
unreachable-requires c =
    let l : Lattice = c.args.lattice.now in
    let last : 0 * l.columns + (l.columns - 1) ≡ l.columns - 1 = omega arith in
    let end' : Point = steps l.across (l.columns - 1) l.up 0 in
    let some : slice_get c.args.shifts.now (l.columns - 1) ≡ Some end' =
    subst (λ ps. slice_get ps (l.columns - 1) ≡ Some end') (sym c.requires.lattice.is)
    (subst (λ x. slice_get (lattice l.across l.columns l.up l.rows) x ≡ Some end') last
    (at_column l.across l.columns l.up l.rows 0 (l.columns - 1) c.requires.lattice.kept.rows
    (omega (arith, c.requires.lattice.kept.columns)))) in
    let none : slice_get c.args.shifts.now (l.columns - 1) ≡ None = sym c.at.ensures ∙ c.in_default.is in
    cc

pub returns : goal.returns
returns c = λ k e at inside.
    rows_inside c.args.shifts.now c.args.lattice.now c.args.area.now c.widened.result c.steps_within.result
    c.in-Some.end k e c.requires.lattice (sym c.at.ensures ∙ c.in-Some.is) c.widened.ensures.has c.steps_within.ensures at inside
