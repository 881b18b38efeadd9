use Rattle.std.proofs.Common.{◌≡◌, ◌∙◌, true, false, refl, sym, ap, subst, Some}
use Rattle.gds_elements.specs.declared.fault.Misplaced.TheVariants.{Unexpected}
use Rattle.gds_library.specs.Ignoring.{BreachesBy, BreachesOnlyBy}
use Rattle.gds_library.specs.declared.fault.GdsKind.TheVariants.{Misplaced}
use Rattle.gds_library.proofs.Passing.{refuses_passed}
use Rattle.gds_library.proofs.Sifting.{takes_passed}
use Rattle.gds_library.proofs.ignoring.WithIgnored.pass.Goals as goal

pub returns-then-not-may_pass-clause-takes : goal.returns-then-not-may_pass-clause-takes
returns-then-not-may_pass-clause-takes c = λ rs r k e h.
    let i = c.args.self.now.profile in
    subst (λ j. BreachesBy i rs r (Misplaced (Unexpected j)) × BreachesOnlyBy i rs r (Misplaced (Unexpected j))) k
    (refuses_passed i rs r e (λ m.
    let y = (c.may_pass.ensures rs r k h).1 m in (let z : true ≡ false = sym y ∙ c.if-not-may_pass.true in cc)))

pub returns-clause-takes : goal.returns-clause-takes
returns-clause-takes c = λ rs r k e h.
    let x = c.args.self.now in
    takes_passed x.profile x _ rs r h e c.requires.unended ((c.may_pass.ensures rs r k h).0 c.if-not-may_pass.false) refl
    (ap (λ j. Some j) (sym k))
