use Rattle.std.proofs.Common.{◌∙◌}
use Rattle.lvl_sweep.proofs.Loads.{row_walked, row_here}
use Rattle.lvl_sweep.proofs.strips.Strips.collect.Goals as goal

pub collect_row-requires-clause-row : goal.collect_row-requires-clause-row
collect_row-requires-clause-row c = rw c.deref.ensures.value (row_walked c.args.self.now c.requires.at)

pub returns-clause-row : goal.returns-clause-row
returns-clause-row c = (rw c.deref.ensures.value at c.collect_row.ensures.row) ∙ row_here c.args.self.now c.requires.at
