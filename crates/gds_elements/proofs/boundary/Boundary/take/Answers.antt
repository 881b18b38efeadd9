use Rattle.std.proofs.Common.{◌≡◌, ◌∙◌, inl, inr, arith, ap, subst}
use Rattle.gds_elements.specs.Types.{xy, endel}
use Rattle.lvl_grammar.specs.Order.{one}
use Rattle.gds_elements.specs.inside.Left.{left_after, EndsBy}
use Rattle.gds_elements.specs.inside.Reading.{record_of}
use Rattle.gds_elements.specs.inside.Boundary.{left, IsRingFault, IsBoundary}
use Rattle.gds_elements.specs.declared.fault.ElementRule.TheVariants.{Layer as LayerKind}
use Rattle.gds_elements.proofs.Taking.{none_drawn, takes_broken, takes_one}
use Rattle.gds_elements.specs.Values.{points}
use Rattle.gds_elements.proofs.Leads.{law_misplaced, leads_begins, in_order}
use Rattle.gds_elements.proofs.Allowed.{allowed, ring_fault, law_boundary}
use Rattle.gds_elements.proofs.Boundaries.{boundary_goes, boundary_ends}
use Rattle.gds_elements.proofs.boundary.Boundary.take.Goals as goal

pub returns-in_ok-self-in-Goes : goal.returns-in_ok-self-in-Goes
returns-in_ok-self-in-Goes c = λ profile piece d h.
    let r = record_of c.args.kind d c.args.payload.now in
    let t = c.after.ensures.order ∙ ap (left_after left) c.in-Goes.is in
    let e = c.in_ok-self-in-Goes.ensures in
    let b = boundary_goes c.args.self.now (record { stage = c.in-Goes.stage; layer = c.in_ok-self-in-Goes.field-0 }) piece r
    h t e.layer e.datatype in (
      none_drawn IsBoundary _ _ _ c.requires.none b,
      allowed profile piece r (leads_begins _ (left c.in-Goes.stage) b.leads)
          (law_boundary profile piece r h.opened e.allowed
          (λ x. absurd (subst (EndsBy xy c.args.kind) c.in-Goes.is c.after.ensures.last x))),
    )

pub returns-in_ok-ring-in-Ends : goal.returns-in_ok-ring-in-Ends
returns-in_ok-ring-in-Ends c = λ profile piece d h.
    let r = record_of c.args.kind d c.args.payload.now in
    let t = c.after.ensures.order ∙ ap (left_after left) c.in-Ends.is in
    let x : c.args.kind ≡ xy = subst (EndsBy xy c.args.kind) c.in-Ends.is c.after.ensures.last in
    let e = c.in_ok-ring-in-Ends.ensures in
    let b = boundary_ends c.args.self.now piece r c.in_ok-ring-in-Ends.ring h t x e.value in (
      b,
      allowed profile piece r (leads_begins _ (one endel) b.leads)
          (law_boundary profile piece r h.opened
          (λ l. absurd (elim l [ inl y ↦ omega (arith, y, x) | inr y ↦ omega (arith, y, x) ])) (λ _. e.allowed)),
    )

pub returns-in-Nowhere : goal.returns-in-Nowhere
returns-in-Nowhere c = λ profile piece d h.
    let r = record_of c.args.kind d c.args.payload.now in
    law_misplaced profile piece r (left c.args.self.now.stage) c.out_of_order.result h.leads
    (c.after.ensures.order ∙ ap (left_after left) c.in-Nowhere.is) c.requires.formed.known c.out_of_order.ensures

pub returns-in_err-self-in-Goes : goal.returns-in_err-self-in-Goes
returns-in_err-self-in-Goes c = λ profile piece d h.
    let r = record_of c.args.kind d c.args.payload.now in
    let t = c.after.ensures.order ∙ ap (left_after left) c.in-Goes.is in
    let g = in_order piece r (left c.args.self.now.stage) (left c.in-Goes.stage) h.leads t in
    let e = c.in_err-self-in-Goes.ensures.refused in
    takes_one IsBoundary _ _ profile piece r c.from_residual.result c.in_err-self-in-Goes.field-0.0 LayerKind c.from_residual.ensures
    g e.0
    (e.1, inl h.opened, e.2)

pub returns-in_err-ring-in-Ends : goal.returns-in_err-ring-in-Ends
returns-in_err-ring-in-Ends c = λ profile piece d h.
    let r = record_of c.args.kind d c.args.payload.now in
    let t = c.after.ensures.order ∙ ap (left_after left) c.in-Ends.is in
    let last = subst (EndsBy xy c.args.kind) c.in-Ends.is c.after.ensures.last in
    let g = in_order piece r (left c.args.self.now.stage) (one endel) h.leads t in
    takes_broken IsBoundary _ _ profile piece r c.from_residual-in_err-ring-in-Ends.result c.in_err-ring-in-Ends.field-0.0
    (IsRingFault (points c.args.payload.now)) c.from_residual-in_err-ring-in-Ends.ensures g
    (ring_fault profile piece r h.opened last) c.in_err-ring-in-Ends.ensures.refused
