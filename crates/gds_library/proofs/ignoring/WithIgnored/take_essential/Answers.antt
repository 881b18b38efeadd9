use Rattle.std.proofs.Common.{◌≡◌, ◌∙◌, true, false, refl, sym}
use Rattle.gds_elements.specs.inside.Reading.{record_of}
use Rattle.gds_library.specs.Ignoring.{essential}
use Rattle.gds_library.proofs.Sifting.{takes_essential, takes_none}
use Rattle.gds_library.proofs.ignoring.WithIgnored.take_essential.Goals as goal

pub returns-in_err-take-clause-takes : goal.returns-in_err-take-clause-takes
returns-in_err-take-clause-takes c = λ rs d e h.
    let x = c.args.self.now in
    let r = record_of c.args.kind d c.args.payload.now in
    takes_none x.profile rs r _ c.from_residual.result c.in_err-take.field-0.0 c.from_residual.ensures e
    (λ w. let y = (c.awaits_value.ensures x.profile rs h).1 w in
    (let z : true ≡ false = sym y ∙ c.if-awaits_value.false in cc))
    (c.in_err-take.ensures (essential x.profile rs) d h.essential)

pub returns-clause-takes : goal.returns-clause-takes
returns-clause-takes c = λ rs d e h.
    let x = c.args.self.now in
    let r = record_of c.args.kind d c.args.payload.now in
    takes_essential x.profile _ rs r e
    (λ w. let y = (c.awaits_value.ensures x.profile rs h).1 w in
    (let z : true ≡ false = sym y ∙ c.if-awaits_value.false in cc))
    (c.in_ok-take.ensures (essential x.profile rs) d h.essential) refl
