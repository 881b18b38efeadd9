use Rattle.std.proofs.Common.{◌<◌, ◌+◌, ◌-◌, IsTrue, arith}
use Rattle.std.proofs.Math.Nat.{div-mul-le_self}
use Rattle.lvl_flat.proofs.Runs.{run_in_row, run_of_rows}
use Rattle.lvl_flat.proofs.missed.missed_from.Goals as goal

pub missed_rows-requires-clause-run : goal.missed_rows-requires-clause-run
missed_rows-requires-clause-run c =
    let yes : IsTrue c.has_rows.result = c.if-not-has_rows.false in
    let some : 0 < c.args.row = c.has_rows.ensures.some yes in
    run_in_row c.args.row c.args.shifts.now c.args.from c.min-rest.result (c.has_rows.ensures.rows yes) some
    (omega (arith, c.min-rest.ensures, c.rest_of_row.ensures some))
    (omega (arith, c.min-rest.ensures, c.requires, c.len-len.ensures.count))
    (omega (arith, c.len-len.ensures.count, c.len-len.type_inv))

pub missed_rows-rows-requires-clause-run : goal.missed_rows-rows-requires-clause-run
missed_rows-rows-requires-clause-run c =
    let yes : IsTrue c.has_rows.result = c.if-not-has_rows.false in
    run_of_rows c.args.row c.args.shifts.now _ _ (c.has_rows.ensures.rows yes) (c.has_rows.ensures.columns yes)
    (c.has_rows.ensures.some yes) (omega (arith, c.if-end-row-ne0.false))
    (omega (
      arith,
      c.min-rest.ensures,
      c.missed_rows.ensures.inside,
      c.requires,
      c.len-len.ensures.count,
      div-mul-le_self (c.len-len.result - (c.args.from + c.missed_rows.result)) c.args.row,
    ))
    (omega (arith, c.len-len.ensures.count, c.len-len.type_inv))
