use Rattle.std.proofs.Common.{◌≡◌, ◌≢◌, length, sym, subst, inl, inr}
use Rattle.gds_elements.specs.Types.{endel}
use Rattle.lvl_grammar.specs.Order.{one}
use Rattle.gds_elements.specs.inside.Reading.{record_of}
use Rattle.gds_elements.specs.inside.Sref.{left, IsSrefRead}
use Rattle.gds_elements.specs.declared.fault.ElementRule.TheVariants.{Points}
use Rattle.gds_elements.specs.Rules.{ValueBreaches}
use Rattle.gds_elements.specs.Values.{points}
use Rattle.gds_elements.proofs.Taking.{takes_broken}
use Rattle.gds_elements.proofs.Leads.{leads_begins, in_order}
use Rattle.gds_elements.proofs.Allowed.{allowed, law_sref, placing_at_points}
use Rattle.gds_elements.proofs.Srefs.{sref_ends}
use Rattle.gds_elements.proofs.sref.Sref.draw.Goals as goal

pub returns : goal.returns
returns c = λ profile piece kind d h x t.
    let r = record_of kind d c.args.payload.now in
    let e = c.in_ok-reference.ensures in
    let b = sref_ends c.args.self.now piece r c.in_ok-reference.reference h t x e.value in (
      b,
      allowed profile piece r (leads_begins _ (one endel) b.leads)
          (law_sref profile piece r h.opened (placing_at_points kind c.args.payload.now x) (λ _. e.allowed)),
    )

pub returns-in_err-reference : goal.returns-in_err-reference
returns-in_err-reference c = λ profile piece kind d h x t.
    let r = record_of kind d c.args.payload.now in
    let g = in_order piece r (left c.args.self.now.stage) (one endel) h.leads t in
    takes_broken IsSrefRead _ _ profile piece r c.from_residual.result c.in_err-reference.field-0.0
    (λ k. (k ≡ Points) × (length (points c.args.payload.now) ≢ 1)) c.from_residual.ensures
    g
    (λ k b. subst (ValueBreaches profile piece r) (sym b.0) (x, inr (inr (inr (inl h.opened, b.1)))))
    c.in_err-reference.ensures.refused
