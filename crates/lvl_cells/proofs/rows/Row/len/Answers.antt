use Rattle.std.proofs.Common.{◌≡◌, ◌-◌, suc, length, ap, arith}
use Rattle.lvl_cells.proofs.Runs.{end_last, spread_long}
use Rattle.lvl_cells.proofs.rows.Row.len.Goals as goal

pub returns : goal.returns
returns c =
    let runs = c.self.inside.runs.now in
    let one : length runs ≡ suc (length runs - 1) = omega (arith, c.if-count-eq0.false) in
    omega (
      arith,
      end_last 0 runs (length runs - 1) (record { end = 0; target = 0 }) one,
      spread_long 0 runs c.self.invariant,
      ap length c.self.view_is,
    )
