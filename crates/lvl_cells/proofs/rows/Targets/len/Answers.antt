use Rattle.std.proofs.Common.{length, ap, arith}
use Rattle.lvl_cells.proofs.Runs.{spread_rows_long}
use Rattle.lvl_cells.proofs.rows.Targets.len.Goals as goal

pub returns : goal.returns
returns c =
    omega (
      arith,
      c.len.ensures,
      c.self.inside.ends.ok.0,
      spread_rows_long c.self.inside.ends.items c.self.inside.runs.items,
      ap length c.self.view_is,
    )
