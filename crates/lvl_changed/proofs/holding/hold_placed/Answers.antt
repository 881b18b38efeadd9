use Rattle.std.proofs.lemmas.Result.{on_ok_weaker}
use Rattle.lvl_changed.proofs.Growing.{grows_further}
use Rattle.lvl_changed.proofs.Missed.{on_ok_both, placed_misses}
use Rattle.lvl_changed.proofs.holding.hold_placed.Goals as goal

pub returns-clause-held : goal.returns-clause-held
returns-clause-held c =
    on_ok_both c.hold_arrays.result
    (placed_misses c.args.library.now.cells c.args.view.now.pairs c.hold_singles.new.area c.hold_arrays.new.area
    c.args.placed.now c.deref.result.now c.deref-2.result.now c.deref.ensures.value c.deref-2.ensures.value
    c.in_ok-hold_singles.ensures.held)
    c.hold_arrays.ensures.held c.hold_arrays.ensures.kept

pub returns-clause-kept : goal.returns-clause-kept
returns-clause-kept c =
    on_ok_weaker c.hold_arrays.result
    (λ wide. grows_further c.args.area.now c.hold_singles.new.area c.hold_arrays.new.area
    c.in_ok-hold_singles.ensures.kept wide)
    c.hold_arrays.ensures.kept
