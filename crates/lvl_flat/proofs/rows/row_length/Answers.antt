use Rattle.lvl_flat.proofs.Runs.{single_rows}
use Rattle.lvl_flat.proofs.rows.row_length.Goals as goal

pub returns-else-has_rows : goal.returns-else-has_rows
returns-else-has_rows c = single_rows c.args.shifts.now
