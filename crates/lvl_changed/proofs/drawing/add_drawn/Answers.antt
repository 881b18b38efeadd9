use Rattle.std.proofs.Common.{◌≡◌, Some, slice_get, arith}
use Rattle.std.proofs.lemmas.Grind.{common_steps}
use Rattle.std.proofs.lemmas.Option.{gets}
use Rattle.std.proofs.lemmas.Result.{on_ok_weaker}
use Rattle.lvl_view.specs.Views.{target_of}
use Rattle.lvl_changed.specs.declared.layers.Layers.{Layers}
use Rattle.lvl_changed.proofs.drawing.add_drawn.Goals as goal

pub returns-in-Some-Some-clause-added : goal.returns-in-Some-Some-clause-added
returns-in-Some-Some-clause-added c =
    let others : Layers = c.in-Some-Some.others in
    let there : slice_get c.args.drawn.now c.args.cell ≡ Some (Some others) =
    grind (arith, common_steps, gets, c.in-Some-Some.ensures.lookup) in
    on_ok_weaker c.add_mapped.result
    (λ added cells known l s covers. added l (known c.args.cell others there l s covers)) c.add_mapped.ensures.added

pub returns-in_default-clause-added : goal.returns-in_default-clause-added
returns-in_default-clause-added c = λ cells known l s covers.
    c.add_every.ensures (target_of c.args.view.now.pairs l)

pub returns-in_default-clause-kept : goal.returns-in_default-clause-kept
returns-in_default-clause-kept c = λ l on. c.add_every.ensures l
