use Rattle.lvl_changed.proofs.Rebasing.{not_moved}
use Rattle.lvl_changed.proofs.arrays.in_order.Goals as goal

pub returns-in_default : goal.returns-in_default
returns-in_default c = not_moved c.args.array

pub returns-in_default-moved : goal.returns-in_default-moved
returns-in_default-moved c = not_moved c.args.array

pub returns-then-is_single : goal.returns-then-is_single
returns-then-is_single c = not_moved c.args.array
