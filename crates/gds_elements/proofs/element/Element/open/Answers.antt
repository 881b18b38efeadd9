use Rattle.std.proofs.Common.{◌∷◌, [], sym, subst, ◌∙◌}
use Rattle.gds_elements.specs.inside.Reading.{HasRead}
use Rattle.gds_elements.specs.declared.element.State.{State}
use Rattle.gds_elements.proofs.element.Element.open.Goals as goal
use Rattle.gds_elements.proofs.element.Element.open.Goals.{in-8, in-9, in-10, in-11, in-12}

pub returns-clause-opened : goal.returns-clause-opened
returns-clause-opened c = λ r e. elim c.match-kind.branch [
  | in-8 w ↦ subst (λ (s : State). HasRead s (r ∷ [])) (sym w.state-is) (w.open.ensures r (e ∙ w.in-8.is))
  | in-9 w ↦ subst (λ (s : State). HasRead s (r ∷ [])) (sym w.state-is) (w.open-in-9.ensures r (e ∙ w.in-9.is))
  | in-10 w ↦ subst (λ (s : State). HasRead s (r ∷ [])) (sym w.state-is) (w.open-in-10.ensures r (e ∙ w.in-10.is))
  | in-11 w ↦ subst (λ (s : State). HasRead s (r ∷ [])) (sym w.state-is) (w.open-in-11.ensures r (e ∙ w.in-11.is))
  | in-12 w ↦ subst (λ (s : State). HasRead s (r ∷ [])) (sym w.state-is) (w.open-in-12.ensures r (e ∙ w.in-12.is))
]
