use Rattle.std.proofs.Common.{◌≡◌, Some, slice_get, arith}
use Rattle.std.proofs.lemmas.Grind.{common_steps}
use Rattle.std.proofs.lemmas.Option.{gets}
use Rattle.std.proofs.lemmas.Result.{on_ok_weaker}
use Rattle.lvl_changed.specs.declared.arrays.Array.{Array}
use Rattle.lvl_changed.specs.declared.found.Found.{Found}
use Rattle.lvl_changed.proofs.references.Partners.add.Goals as goal

pub returns-in-Some-Some-clause-added : goal.returns-in-Some-Some-clause-added
returns-in-Some-Some-clause-added c =
    let a : Array = c.args.array in
    let f : Found = c.in-Some-Some.found in
    let found_at : slice_get c.args.known.now a.cell ≡ Some (Some f) =
    grind (arith, common_steps, gets, c.in-Some-Some.ensures.lookup) in
    on_ok_weaker c.push.result (λ adds pair known. adds pair (known a.cell f found_at)) c.push.ensures.added

pub returns-in_default-clause-added : goal.returns-in_default-clause-added
returns-in_default-clause-added c = λ pair known l s out. absurd (out (c.hold_anywhere.ensures l s))

pub returns-in_default-clause-kept : goal.returns-in_default-clause-kept
returns-in_default-clause-kept c = record { has = λ l s h. c.hold_anywhere.ensures l s }
