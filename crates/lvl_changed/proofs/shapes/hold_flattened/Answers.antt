use Rattle.std.proofs.lemmas.Result.{on_ok_weaker}
use Rattle.lvl_changed.proofs.shapes.hold_flattened.Goals as goal

pub returns-in_default-clause-held : goal.returns-in_default-clause-held
returns-in_default-clause-held c = λ l s out. absurd (out (c.hold_anywhere.ensures l s))

pub returns-in_default-clause-kept : goal.returns-in_default-clause-kept
returns-in_default-clause-kept c = record { has = λ l s h. c.hold_anywhere.ensures l s }

pub returns-in_default-2-clause-held : goal.returns-in_default-2-clause-held
returns-in_default-2-clause-held c = λ l s out. absurd (out (c.hold_anywhere-in_default-2.ensures l s))

pub returns-in_default-2-clause-kept : goal.returns-in_default-2-clause-kept
returns-in_default-2-clause-kept c = record { has = λ l s h. c.hold_anywhere-in_default-2.ensures l s }

pub returns-clause-held : goal.returns-clause-held
returns-clause-held c =
    let ours = rw c.in-Some.is at c.in_ok-ours.ensures in
    let theirs = rw c.in-Some-2.is at c.in_ok-theirs.ensures in
    on_ok_weaker c.hold_flats.result
    (λ same l s out. (
      λ h. (theirs l s).0 ((same l s out).0 ((ours l s).1 h)),
      λ h. (ours l s).0 ((same l s out).1 ((theirs l s).1 h)),
    )) c.hold_flats.ensures.held
