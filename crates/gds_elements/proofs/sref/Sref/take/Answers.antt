use Rattle.std.proofs.Common.{◌∙◌, ap, subst, inl}
use Rattle.gds_elements.specs.Types.{xy}
use Rattle.gds_elements.specs.inside.Left.{left_after, EndsBy}
use Rattle.gds_elements.specs.inside.Reading.{record_of}
use Rattle.gds_elements.specs.inside.Sref.{left, IsSrefRead}
use Rattle.gds_elements.specs.declared.sref.Sref.{Sref}
use Rattle.gds_elements.proofs.Taking.{none_drawn, takes_broken}
use Rattle.gds_elements.specs.inside.Placing.{IsPlacingFault}
use Rattle.gds_elements.proofs.Leads.{law_misplaced, leads_begins, in_order}
use Rattle.gds_elements.proofs.Allowed.{allowed, placing_fault, law_sref}
use Rattle.gds_elements.proofs.Srefs.{sref_goes}
use Rattle.gds_elements.proofs.sref.Sref.take.Goals as goal

pub returns-in_ok-read-in-Goes : goal.returns-in_ok-read-in-Goes
returns-in_ok-read-in-Goes c = λ profile piece d h.
    let r = record_of c.args.kind d c.args.payload.now in
    let t = c.after.ensures.order ∙ ap (left_after left) c.in-Goes.is in
    let e = c.in_ok-read-in-Goes.ensures in
    let s' : Sref = record { stage = c.in-Goes.stage; placing = c.read.new.self } in
    let b = sref_goes c.args.self.now s' piece r h t e.name e.flip e.turn in (
      none_drawn IsSrefRead _ _ _ c.requires.none b,
      allowed profile piece r (leads_begins _ (left c.in-Goes.stage) b.leads)
          (law_sref profile piece r h.opened e.allowed
          (λ x. absurd (subst (EndsBy xy c.args.kind) c.in-Goes.is c.after.ensures.last x))),
    )

pub returns-in-Nowhere : goal.returns-in-Nowhere
returns-in-Nowhere c = λ profile piece d h.
    let r = record_of c.args.kind d c.args.payload.now in
    law_misplaced profile piece r (left c.args.self.now.stage) c.out_of_order.result h.leads
    (c.after.ensures.order ∙ ap (left_after left) c.in-Nowhere.is) c.requires.formed.known c.out_of_order.ensures

pub returns-in_err-read-in-Goes : goal.returns-in_err-read-in-Goes
returns-in_err-read-in-Goes c = λ profile piece d h.
    let r = record_of c.args.kind d c.args.payload.now in
    let t = c.after.ensures.order ∙ ap (left_after left) c.in-Goes.is in
    let g = in_order piece r (left c.args.self.now.stage) (left c.in-Goes.stage) h.leads t in
    takes_broken IsSrefRead _ _ profile piece r c.from_residual.result c.in_err-read-in-Goes.field-0.0
    (IsPlacingFault c.args.kind c.args.payload.now) c.from_residual.ensures g
    (placing_fault profile piece r (inl h.opened)) c.in_err-read-in-Goes.ensures.refused

pub returns-in-Ends : goal.returns-in-Ends
returns-in-Ends c = λ profile piece d h.
    c.draw.ensures profile piece c.args.kind d h (subst (EndsBy xy c.args.kind) c.in-Ends.is c.after.ensures.last)
    (c.after.ensures.order ∙ ap (left_after left) c.in-Ends.is)
