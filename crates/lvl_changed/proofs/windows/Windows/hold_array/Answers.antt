use Rattle.std.proofs.lemmas.Result.{on_ok_weaker}
use Rattle.lvl_changed.proofs.Arraying.{array_outside}
use Rattle.lvl_changed.proofs.windows.Windows.hold_array.Goals as goal

pub returns-in-Some-clause-held : goal.returns-in-Some-clause-held
returns-in-Some-clause-held c =
    on_ok_weaker c.hold_everywhere.result
    (λ held layer s out covers.
    array_outside c.args.library.now.cells c.args.array.now c.in-Some.window c.hold_everywhere.new.self
    (λ l t h. c.in-Some.ensures l t h) held layer s out covers)
    c.hold_everywhere.ensures.held

pub returns-in-None-clause-held : goal.returns-in-None-clause-held
returns-in-None-clause-held c = λ layer s out covers. out (c.hold_anywhere.ensures s)

pub returns-in-None-clause-kept : goal.returns-in-None-clause-kept
returns-in-None-clause-kept c = record { has = λ s h. c.hold_anywhere.ensures s }
