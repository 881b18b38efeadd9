use Rattle.std.proofs.Common.{◌≡◌, ◌∙◌, true, false, sym, ap}
use Rattle.gds_library.specs.Ignoring.{comes_after, essential}
use Rattle.gds_library.proofs.Sifting.{passes_end, passes_after}
use Rattle.gds_library.proofs.ignoring.WithIgnored.may_pass.Goals as goal

pub returns-then-not-awaits_value : goal.returns-then-not-awaits_value
returns-then-not-awaits_value c = λ rs r k h.
    let x = c.args.self.now in
    passes_end x.profile x rs r c.may_end.result h c.requires.unended (k ∙ c.if-kind-eq-PROPATTR.true)
    (λ w. let y = (c.awaits_value.ensures x.profile rs h).1 w in
    (let z : true ≡ false = sym y ∙ c.if-not-awaits_value.true in cc))
    (c.may_end.ensures (essential x.profile rs) h.essential)

pub returns-in-Some : goal.returns-in-Some
returns-in-Some c = λ rs r k h.
    let x = c.args.self.now in
    passes_after x.profile x rs r c.comes_after.result c.in-Some.last h c.requires.unended
    (λ e. c.if-kind-eq-PROPATTR.false (sym k ∙ e)) c.in-Some.is
    (c.comes_after.ensures ∙ ap (λ i. comes_after i c.in-Some.last) (sym k))
