use Rattle.std.proofs.Common.{◌≡◌, ◌∙◌, ap, inr, subst}
use Rattle.gds_elements.specs.Types.{xy, colrow}
use Rattle.gds_elements.specs.inside.Left.{left_after, EndsBy}
use Rattle.gds_elements.specs.inside.Reading.{record_of}
use Rattle.gds_elements.specs.inside.Aref.{left, IsArefRead}
use Rattle.gds_elements.specs.declared.aref.Aref.{Aref}
use Rattle.gds_elements.proofs.Taking.{none_drawn, takes_broken}
use Rattle.gds_elements.specs.inside.Placing.{IsPlacingFault}
use Rattle.gds_elements.specs.inside.Counts.{IsCountFault}
use Rattle.gds_elements.proofs.Leads.{law_misplaced, leads_begins, in_order}
use Rattle.gds_elements.proofs.Allowed.{allowed, placing_fault, count_fault, law_aref}
use Rattle.gds_elements.proofs.Arefs.{aref_goes}
use Rattle.gds_elements.proofs.aref.Aref.take.Goals as goal

pub returns-in_ok-self-in-Goes : goal.returns-in_ok-self-in-Goes
returns-in_ok-self-in-Goes c = λ piece d h.
    let r = record_of c.args.kind d c.args.payload.now in
    let t = c.after.ensures.order ∙ ap (left_after left) c.in-Goes.is in
    let e = c.in_ok-read-in-Goes.ensures in
    let s' : Aref = record {
      stage = c.in-Goes.stage;
      placing = c.read.new.self;
      counts = c.in_ok-self-in-Goes.field-0;
    } in
    let b = aref_goes c.args.self.now s' piece r h t e.name e.flip e.turn c.in_ok-self-in-Goes.ensures.columns
    c.in_ok-self-in-Goes.ensures.rows in (
      none_drawn IsArefRead _ _ _ c.requires.none b,
      allowed c.args.profile piece r (leads_begins _ (left c.in-Goes.stage) b.leads)
          (law_aref c.args.profile piece r h.opened e.allowed c.in_ok-self-in-Goes.ensures.allowed
          (λ x. absurd (subst (EndsBy xy c.args.kind) c.in-Goes.is c.after.ensures.last x))),
    )

pub returns-in-Nowhere : goal.returns-in-Nowhere
returns-in-Nowhere c = λ piece d h.
    let r = record_of c.args.kind d c.args.payload.now in
    law_misplaced c.args.profile piece r (left c.args.self.now.stage) c.out_of_order.result h.leads
    (c.after.ensures.order ∙ ap (left_after left) c.in-Nowhere.is) c.requires.formed.known c.out_of_order.ensures

pub returns-in_err-read-in-Goes : goal.returns-in_err-read-in-Goes
returns-in_err-read-in-Goes c = λ piece d h.
    let r = record_of c.args.kind d c.args.payload.now in
    let t = c.after.ensures.order ∙ ap (left_after left) c.in-Goes.is in
    let g = in_order piece r (left c.args.self.now.stage) (left c.in-Goes.stage) h.leads t in
    takes_broken IsArefRead _ _ c.args.profile piece r c.from_residual.result c.in_err-read-in-Goes.field-0.0
    (IsPlacingFault c.args.kind c.args.payload.now) c.from_residual.ensures g
    (placing_fault c.args.profile piece r (inr h.opened)) c.in_err-read-in-Goes.ensures.refused

pub returns-in_err-self-in-Goes : goal.returns-in_err-self-in-Goes
returns-in_err-self-in-Goes c = λ piece d h.
    let r = record_of c.args.kind d c.args.payload.now in
    let t = c.after.ensures.order ∙ ap (left_after left) c.in-Goes.is in
    let g = in_order piece r (left c.args.self.now.stage) (left c.in-Goes.stage) h.leads t in
    takes_broken IsArefRead _ _ c.args.profile piece r c.from_residual-in_err-self-in-Goes.result c.in_err-self-in-Goes.field-0.0
    (λ k. (c.args.kind ≡ colrow) × IsCountFault c.args.profile.limits c.args.payload.now k)
    c.from_residual-in_err-self-in-Goes.ensures
    g
    (count_fault c.args.profile piece r h.opened) c.in_err-self-in-Goes.ensures.refused

pub returns-in-Ends : goal.returns-in-Ends
returns-in-Ends c = λ piece d h.
    c.draw.ensures c.args.profile piece c.args.kind d h (subst (EndsBy xy c.args.kind) c.in-Ends.is c.after.ensures.last)
    (c.after.ensures.order ∙ ap (left_after left) c.in-Ends.is)
