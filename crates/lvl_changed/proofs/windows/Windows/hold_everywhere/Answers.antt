use Rattle.std.proofs.lemmas.Result.{on_ok_weaker}
use Rattle.lvl_grid.specs.Turn.{image_square}
use Rattle.lvl_cells.specs.Cells.{map_at}
use Rattle.lvl_changed.specs.inside.Arrays.{as_reference}
use Rattle.lvl_changed.proofs.windows.Windows.hold_everywhere.Goals as goal

pub returns-in-Some-clause-held : goal.returns-in-Some-clause-held
returns-in-Some-clause-held c =
    on_ok_weaker c.hold.result
    (λ held e there s h. held (image_square (map_at (as_reference c.args.array.now) e) s) (c.in-Some.ensures e there s h))
    c.hold.ensures.held

pub returns-in-None-clause-held : goal.returns-in-None-clause-held
returns-in-None-clause-held c = λ e there s h.
    c.hold_anywhere.ensures (image_square (map_at (as_reference c.args.array.now) e) s)

pub returns-in-None-clause-kept : goal.returns-in-None-clause-kept
returns-in-None-clause-kept c = record { has = λ s h. c.hold_anywhere.ensures s }
