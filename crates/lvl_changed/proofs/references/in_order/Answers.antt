use Rattle.std.proofs.Common.{refl}
use Rattle.lvl_changed.proofs.Rowing.{ordered_cover}
use Rattle.lvl_changed.proofs.references.in_order.Goals as goal

pub returns : goal.returns
returns c = λ cells l s.
    let both = ordered_cover cells c.args.placed
    (record { singles = c.args.placed.singles; arrays = c.sort_arrays.new.arrays }) l s refl c.sort_arrays.ensures in
    (both.1, both.0)
