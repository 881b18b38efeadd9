use Rattle.std.proofs.Common.{◌∙◌, ap, inr, subst, arith}
use Rattle.gds_elements.specs.Types.{string, endel}
use Rattle.lvl_grammar.specs.Order.{one}
use Rattle.gds_elements.specs.inside.Left.{left_after, EndsBy}
use Rattle.gds_elements.specs.inside.Reading.{record_of}
use Rattle.gds_elements.specs.inside.Text.{left, IsTextRead}
use Rattle.gds_elements.specs.declared.text.Text.{Text}
use Rattle.gds_elements.specs.declared.fault.ElementRule.TheVariants.{Points}
use Rattle.gds_elements.proofs.Taking.{none_drawn, takes_one}
use Rattle.gds_elements.proofs.Leads.{law_misplaced, leads_begins, in_order}
use Rattle.gds_elements.proofs.Allowed.{allowed, law_text}
use Rattle.gds_elements.proofs.Texts.{text_goes, text_ends}
use Rattle.gds_elements.proofs.text.Text.take.Goals as goal

pub returns-in_ok-check_points-in-Goes : goal.returns-in_ok-check_points-in-Goes
returns-in_ok-check_points-in-Goes c = λ profile piece d h.
    let r = record_of c.args.kind d c.args.payload.now in
    let t' : Text = record { stage = c.in-Goes.stage } in
    let b = text_goes c.args.self.now t' piece r h (c.after.ensures.order ∙ ap (left_after left) c.in-Goes.is) in (
      none_drawn IsTextRead _ _ _ c.requires.none b,
      allowed profile piece r (leads_begins _ (left c.in-Goes.stage) b.leads)
          (law_text profile piece r h.opened c.in_ok-check_points-in-Goes.ensures.allowed),
    )

pub returns-in-Ends : goal.returns-in-Ends
returns-in-Ends c = λ profile piece d h.
    let r = record_of c.args.kind d c.args.payload.now in
    let t = c.after.ensures.order ∙ ap (left_after left) c.in-Ends.is in
    let last = subst (EndsBy string c.args.kind) c.in-Ends.is c.after.ensures.last in
    let b = text_ends c.args.self.now piece r h t in (
      b,
      allowed profile piece r (leads_begins _ (one endel) b.leads)
          (law_text profile piece r h.opened (λ x. absurd (omega (arith, x, last)))),
    )

pub returns-in-Nowhere : goal.returns-in-Nowhere
returns-in-Nowhere c = λ profile piece d h.
    let r = record_of c.args.kind d c.args.payload.now in
    law_misplaced profile piece r (left c.args.self.now.stage) c.out_of_order.result h.leads
    (c.after.ensures.order ∙ ap (left_after left) c.in-Nowhere.is) c.requires.formed.known c.out_of_order.ensures

pub returns-in_err-check_points-in-Goes : goal.returns-in_err-check_points-in-Goes
returns-in_err-check_points-in-Goes c = λ profile piece d h.
    let r = record_of c.args.kind d c.args.payload.now in
    let t = c.after.ensures.order ∙ ap (left_after left) c.in-Goes.is in
    let g = in_order piece r (left c.args.self.now.stage) (left c.in-Goes.stage) h.leads t in
    let e = c.in_err-check_points-in-Goes.ensures.refused in
    takes_one IsTextRead _ _ profile piece r c.from_residual.result c.in_err-check_points-in-Goes.field-0.0 Points
    c.from_residual.ensures g
    e.0 (e.1, inr (inr (inr (inr h.opened, e.2))))
