use Rattle.lvl_changed.proofs.Rebased.{array_rebased}
use Rattle.lvl_changed.proofs.arrays.array_of.Goals as goal

pub returns : goal.returns
returns c =
    array_rebased c.args.checked.now.cells c.args.cell c.args.j c.in_ok-reference_at.field-0 c.in_order.result
    c.in_order.ensures c.in_ok-reference_at.ensures
