use Rattle.std.proofs.Common.{arith}
use Rattle.gds_elements.specs.Types.{endel}
use Rattle.lvl_grammar.specs.Order.{one}
use Rattle.gds_elements.specs.Values.{points}
use Rattle.gds_elements.specs.inside.Reading.{record_of}
use Rattle.gds_elements.specs.inside.Aref.{left, IsArrayFault, IsArefRead}
use Rattle.gds_elements.proofs.Taking.{takes_broken}
use Rattle.gds_elements.proofs.Leads.{leads_begins, in_order}
use Rattle.gds_elements.proofs.Allowed.{allowed, law_aref, placing_at_points}
use Rattle.gds_elements.proofs.Arefs.{aref_ends, steps_of, array_fault}
use Rattle.gds_elements.proofs.aref.Aref.draw.Goals as goal

pub returns : goal.returns
returns c = λ profile piece kind d h x t.
    let r = record_of kind d c.args.payload.now in
    let e = c.in_ok-reference.ensures in
    let b = aref_ends c.args.self.now piece r c.in_ok-reference.reference h t x e.value in (
      b,
      allowed profile piece r (leads_begins _ (one endel) b.leads)
          (law_aref profile piece r h.opened (placing_at_points kind c.args.payload.now x)
          (λ y. absurd (omega (arith, x, y)))
          (λ _. steps_of c.args.self.now piece (points c.args.payload.now) h e.allowed)),
    )

pub returns-in_err-reference : goal.returns-in_err-reference
returns-in_err-reference c = λ profile piece kind d h x t.
    let r = record_of kind d c.args.payload.now in
    let g = in_order piece r (left c.args.self.now.stage) (one endel) h.leads t in
    takes_broken IsArefRead _ _ profile piece r c.from_residual.result
    c.in_err-reference.field-0.0
    (IsArrayFault (points c.args.payload.now) c.args.self.now.counts.columns c.args.self.now.counts.rows)
    c.from_residual.ensures g
    (array_fault profile c.args.self.now piece r h x) c.in_err-reference.ensures.refused
