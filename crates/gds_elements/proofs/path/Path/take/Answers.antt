use Rattle.std.proofs.Common.{◌∙◌, ap, subst, inl, inr}
use Rattle.gds_elements.specs.Types.{xy}
use Rattle.gds_elements.specs.inside.Left.{left_after, EndsBy}
use Rattle.gds_elements.specs.inside.Reading.{record_of}
use Rattle.gds_elements.specs.declared.path.Path.{Path}
use Rattle.gds_elements.specs.inside.Path.{left, IsPathRead}
use Rattle.gds_elements.specs.declared.fault.ElementRule.TheVariants.{Layer as LayerKind, PathType, Width}
use Rattle.gds_elements.proofs.Leads.{law_misplaced, leads_begins, in_order}
use Rattle.gds_elements.proofs.Allowed.{allowed, law_path}
use Rattle.gds_elements.proofs.Taking.{none_drawn, takes_one}
use Rattle.gds_elements.proofs.Paths.{path_goes}
use Rattle.gds_elements.proofs.path.Path.take.Goals as goal

pub returns-in_ok-self-in-Goes-3 : goal.returns-in_ok-self-in-Goes-3
returns-in_ok-self-in-Goes-3 c = λ piece d h.
    let profile = c.args.profile in
    let r = record_of c.args.kind d c.args.payload.now in
    let t = c.after.ensures.order ∙ ap (left_after left) c.in-Goes.is in
    let p' : Path = record {
      stage = c.in-Goes.stage;
      layer = c.in_ok-self-in-Goes.field-0;
      square = c.in_ok-self-in-Goes-2.field-0;
      half = c.in_ok-self-in-Goes-3.field-0;
    } in
    let b = path_goes c.args.self.now p' piece r h t c.in_ok-self-in-Goes.ensures.layer
    c.in_ok-self-in-Goes.ensures.datatype c.in_ok-self-in-Goes-2.ensures.value c.in_ok-self-in-Goes-3.ensures.value
    in (
      none_drawn IsPathRead _ _ _ c.requires.none b,
      allowed profile piece r (leads_begins _ (left c.in-Goes.stage) b.leads)
          (law_path profile piece r h.opened c.in_ok-self-in-Goes.ensures.allowed
          c.in_ok-self-in-Goes-2.ensures.allowed
          c.in_ok-self-in-Goes-3.ensures.allowed
          (λ x. absurd (subst (EndsBy xy c.args.kind) c.in-Goes.is c.after.ensures.last x))),
    )

pub returns-in-Nowhere : goal.returns-in-Nowhere
returns-in-Nowhere c = λ piece d h.
    let profile = c.args.profile in
    let r = record_of c.args.kind d c.args.payload.now in
    law_misplaced profile piece r (left c.args.self.now.stage) c.out_of_order.result h.leads
    (c.after.ensures.order ∙ ap (left_after left) c.in-Nowhere.is) c.requires.formed.known c.out_of_order.ensures

pub returns-in_err-self-in-Goes : goal.returns-in_err-self-in-Goes
returns-in_err-self-in-Goes c = λ piece d h.
    let profile = c.args.profile in
    let r = record_of c.args.kind d c.args.payload.now in
    let t = c.after.ensures.order ∙ ap (left_after left) c.in-Goes.is in
    let g = in_order piece r (left c.args.self.now.stage) (left c.in-Goes.stage) h.leads t in
    let e = c.in_err-self-in-Goes.ensures.refused in
    takes_one IsPathRead _ _ profile piece r c.from_residual.result c.in_err-self-in-Goes.field-0.0 LayerKind c.from_residual.ensures
    g e.0
    (e.1, inr h.opened, e.2)

pub returns-in_err-self-in-Goes-2 : goal.returns-in_err-self-in-Goes-2
returns-in_err-self-in-Goes-2 c = λ piece d h.
    let profile = c.args.profile in
    let r = record_of c.args.kind d c.args.payload.now in
    let t = c.after.ensures.order ∙ ap (left_after left) c.in-Goes.is in
    let g = in_order piece r (left c.args.self.now.stage) (left c.in-Goes.stage) h.leads t in
    let e = c.in_err-self-in-Goes-2.ensures.refused in
    takes_one IsPathRead _ _ profile piece r c.from_residual-in_err-self-in-Goes-2.result c.in_err-self-in-Goes-2.field-0.0 PathType
    c.from_residual-in_err-self-in-Goes-2.ensures g e.0 (e.1, h.opened, e.2, e.3)

pub returns-in_err-self-in-Goes-3 : goal.returns-in_err-self-in-Goes-3
returns-in_err-self-in-Goes-3 c = λ piece d h.
    let profile = c.args.profile in
    let r = record_of c.args.kind d c.args.payload.now in
    let t = c.after.ensures.order ∙ ap (left_after left) c.in-Goes.is in
    let g = in_order piece r (left c.args.self.now.stage) (left c.in-Goes.stage) h.leads t in
    let e = c.in_err-self-in-Goes-3.ensures.refused in
    takes_one IsPathRead _ _ profile piece r c.from_residual-in_err-self-in-Goes-3.result c.in_err-self-in-Goes-3.field-0.0 Width
    c.from_residual-in_err-self-in-Goes-3.ensures g e.0 (h.opened, inl (e.1, e.2))

pub returns-in-Ends : goal.returns-in-Ends
returns-in-Ends c = λ piece d h.
    c.draw.ensures piece c.args.kind d h (subst (EndsBy xy c.args.kind) c.in-Ends.is c.after.ensures.last)
    (c.after.ensures.order ∙ ap (left_after left) c.in-Ends.is)
