use Rattle.lvl_changed.proofs.Growing.{both_grow}
use Rattle.std.proofs.lemmas.Result.{on_ok_weaker}
use Rattle.lvl_changed.proofs.area.Area.hold.Goals as goal

pub returns-clause-held : goal.returns-clause-held
returns-clause-held c =
    on_ok_weaker c.hold.result (λ held s h. (c.in_ok-add.ensures.added, held s h)) c.hold.ensures.held

pub returns-clause-kept : goal.returns-clause-kept
returns-clause-kept c =
    on_ok_weaker c.hold.result (λ kept. both_grow _ _ c.in_ok-add.ensures.kept kept) c.hold.ensures.kept
