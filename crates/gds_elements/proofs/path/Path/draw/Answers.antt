use Rattle.std.proofs.Common.{ℕ, subst, inl, inr, arith}
use Rattle.lvl_path.specs.Repeats.{asked}
use Rattle.lvl_path.specs.Runs.{IsPath}
use Rattle.gds_elements.specs.Types.{endel}
use Rattle.lvl_grammar.specs.Order.{one}
use Rattle.gds_elements.specs.Values.{points}
use Rattle.gds_elements.specs.Meaning.{end_of}
use Rattle.gds_elements.specs.inside.Reading.{record_of}
use Rattle.gds_elements.specs.inside.Path.{left, IsBandsFault, IsPathRead}
use Rattle.gds_elements.proofs.Leads.{leads_begins, in_order}
use Rattle.gds_elements.proofs.Allowed.{allowed, law_path}
use Rattle.gds_elements.proofs.Taking.{takes_broken}
use Rattle.gds_elements.proofs.Paths.{path_ends, some_of, width_read, half_is}
use Rattle.gds_elements.proofs.Paths.{reach_is, bands_fault}
use Rattle.gds_elements.proofs.path.Path.draw.Goals as goal

pub returns-in_err-rings : goal.returns-in_err-rings
returns-in_err-rings c = λ piece kind d h x t.
    let profile = c.args.profile in
    let r = record_of kind d c.args.payload.now in
    let e = c.in_err-rings.field-0.0 in
    takes_broken IsPathRead _ _ profile piece r c.from_residual.result e
    (IsBandsFault profile.ignore.points (points c.args.payload.now) c.args.self.now.half c.args.self.now.square)
    c.from_residual.ensures
    (in_order piece r (left c.args.self.now.stage) (one endel) h.leads t)
    (bands_fault profile c.args.self.now piece r h x) c.in_err-rings.ensures.refused

pub returns : goal.returns
returns c = λ piece kind d h x t.
    let profile = c.args.profile in
    let r = record_of kind d c.args.payload.now in
    let qs = asked profile.ignore.points (points c.args.payload.now) in
    let e = c.in_ok-rings.ensures in
    let known = some_of c.args.self.now.half e.width in
    let b = path_ends c.args.self.now piece r known.0 c.in_ok-rings.rings h t x known.1 (e.value known.0 known.1) in
    let ok = e.allowed known.0 known.1 in
    let ok' = subst (λ (n : ℕ). IsPath qs (record { half = known.0; start = n; end = n }))
    (reach_is c.args.self.now piece known.0 h known.1) ok in
    let ok'' = subst (λ (n : ℕ). IsPath qs (record { half = n; start = end_of piece; end = end_of piece }))
    (half_is c.args.self.now piece known.0 h known.1) ok' in (
      b,
      allowed profile piece r (leads_begins _ (one endel) b.leads)
          (law_path profile piece r h.opened (λ l. absurd
          (elim l [ inl y ↦ omega (arith, y, x) | inr y ↦ omega (arith, y, x) ]))
          (λ y. absurd (omega (arith, x, y))) (λ y. absurd (omega (arith, x, y)))
          (λ _. (e.enough, width_read c.args.self.now piece h e.width, ok''))),
    )
