use Rattle.std.proofs.Common.{◌<◌, ◌/◌, sym, subst, ◌∙◌, arith}
use Rattle.lvl_flat.specs.inside.Passing.{HasRows, HasColumns}
use Rattle.lvl_flat.proofs.Runs.{lattice_rows, lattice_columns}
use Rattle.lvl_flat.proofs.rows.has_rows.Goals as goal

pub returns-in-Some-clause-rows : goal.returns-in-Some-clause-rows
returns-in-Some-clause-rows c = λ t.
    let some : 0 < c.args.row = omega (arith, c.if-row-eq0.false) in
    subst (HasRows c.args.row) (sym c.in-Some.ensures.same ∙ c.is_same_lattice.ensures t)
    (lattice_rows c.unwrap_or-across.result c.args.row c.unwrap_or-up.result (c.len.result / c.args.row) some)

pub returns-in-Some-clause-columns : goal.returns-in-Some-clause-columns
returns-in-Some-clause-columns c = λ t.
    let some : 0 < c.args.row = omega (arith, c.if-row-eq0.false) in
    subst (HasColumns c.args.row) (sym c.in-Some.ensures.same ∙ c.is_same_lattice.ensures t)
    (lattice_columns c.unwrap_or-across.result c.args.row c.unwrap_or-up.result (c.len.result / c.args.row) some)
