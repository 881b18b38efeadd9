use Rattle.lvl_changed.proofs.Growing.{both_grow}
use Rattle.std.proofs.lemmas.Result.{on_ok_weaker}
use Rattle.lvl_changed.proofs.area.Area.hold_placed_cell.Goals as goal

pub returns-clause-held : goal.returns-clause-held
returns-clause-held c =
    on_ok_weaker c.hold_placed_cell.result
    (λ held layer s covers.
    (c.in_ok-add_drawn.ensures.added c.args.library.now.cells c.requires layer s covers, held layer s covers))
    c.hold_placed_cell.ensures.held

pub returns-clause-kept : goal.returns-clause-kept
returns-clause-kept c =
    on_ok_weaker c.hold_placed_cell.result (λ kept. both_grow _ _ c.in_ok-add_drawn.ensures.kept kept)
    c.hold_placed_cell.ensures.kept
