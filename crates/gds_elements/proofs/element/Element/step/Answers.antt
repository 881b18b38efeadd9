use Rattle.std.proofs.Common.{◌∷◌, [], ◌++◌, sym, subst, Option}
use Rattle.gds_elements.specs.Types.{endel}
use Rattle.lvl_grammar.specs.Order.{one}
use Rattle.gds_elements.specs.inside.Reading.{HasRead, IsAfter, Draws, record_of}
use Rattle.gds_elements.specs.declared.element.Drawn.{Drawn}
use Rattle.gds_elements.proofs.Leads.{law_misplaced, none_there}
use Rattle.gds_elements.proofs.Taking.{law_end, steps_stop}
use Rattle.gds_elements.proofs.element.Element.step.Goals as goal

pub returns-then-kind-ne-ENDEL : goal.returns-then-kind-ne-ENDEL
returns-then-kind-ne-ENDEL c = λ piece d h.
    let a = subst (λ (o : Option Drawn). IsAfter HasRead c.args.self.now.state o piece) c.in-Some.is h in
    law_misplaced c.args.profile piece (record_of c.args.kind d c.args.payload.now) (one endel) c.out_of_order.result
    a.leads (none_there c.args.kind c.if-kind-ne-ENDEL.true) c.requires.known c.out_of_order.ensures

pub returns-else-kind-ne-ENDEL : goal.returns-else-kind-ne-ENDEL
returns-else-kind-ne-ENDEL c = λ piece d h.
    let r = record_of c.args.kind d c.args.payload.now in
    let a = subst (λ (o : Option Drawn). IsAfter HasRead c.args.self.now.state o piece) c.in-Some.is h in
    let whole = law_end c.args.profile piece r c.in-Some.field-0 a c.if-kind-ne-ENDEL.false in
    (subst (λ (o : Option Drawn). Draws o (piece ++ r ∷ [])) (sym c.in-Some.is) whole.0, whole.1)

pub returns-in_ok-take-in-None : goal.returns-in_ok-take-in-None
returns-in_ok-take-in-None c = λ piece d h.
    c.in_ok-take-in-None.ensures piece d
    (subst (λ (o : Option Drawn). IsAfter HasRead c.args.self.now.state o piece) c.in-None.is h)

pub returns-in_err-take-in-None : goal.returns-in_err-take-in-None
returns-in_err-take-in-None c = λ piece d h.
    steps_stop _ c.args.profile piece (record_of c.args.kind d c.args.payload.now) c.from_residual.result
    c.in_err-take-in-None.field-0.0 c.from_residual.ensures
    (c.in_err-take-in-None.ensures piece d
    (subst (λ (o : Option Drawn). IsAfter HasRead c.args.self.now.state o piece) c.in-None.is h))
