use Rattle.std.proofs.lemmas.Result.{on_ok_weaker}
use Rattle.lvl_changed.proofs.shapes.hold_ring.Goals as goal

pub returns-in-Some-clause-held : goal.returns-in-Some-clause-held
returns-in-Some-clause-held c =
    on_ok_weaker c.hold.result (λ held e s b h. held s (c.in-Some.ensures e s b h)) c.hold.ensures.held

pub returns-in-None-clause-held : goal.returns-in-None-clause-held
returns-in-None-clause-held c = λ e s b h. c.hold_anywhere.ensures c.args.layer s

pub returns-in-None-clause-kept : goal.returns-in-None-clause-kept
returns-in-None-clause-kept c = record { has = λ l s h. c.hold_anywhere.ensures l s }
