use Rattle.lvl_changed.proofs.Growing.{both_grow, both_placed}
use Rattle.std.proofs.lemmas.Result.{on_ok_weaker}
use Rattle.lvl_changed.proofs.area.Area.hold_places.Goals as goal

pub returns-clause-held : goal.returns-clause-held
returns-clause-held c =
    on_ok_weaker c.hold_places.result
    (λ held e there. both_placed _ c.args.held.now _ c.in_ok-add_all.ensures.added (held e there))
    c.hold_places.ensures.held

pub returns-clause-kept : goal.returns-clause-kept
returns-clause-kept c =
    on_ok_weaker c.hold_places.result (λ kept. both_grow _ _ c.in_ok-add_all.ensures.kept kept)
    c.hold_places.ensures.kept
