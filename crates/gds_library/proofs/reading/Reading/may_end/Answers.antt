use Rattle.std.proofs.Common.{◌≡◌, true, false, subst}
use Rattle.std.specs.Prelude.{Option}
use Rattle.gds_elements.specs.declared.element.Element.{Element}
use Rattle.gds_library.specs.inside.Holds.{HoldsWith}
use Rattle.gds_library.proofs.Steps.{end_inside, end_outside}
use Rattle.gds_library.proofs.reading.Reading.may_end.Goals as goal

pub returns-in-Some : goal.returns-in-Some
returns-in-Some c = λ rs h.
    end_inside c.args.self.now.builder c.in-Some.element rs c.may_end.result c.may_end.ensures
    (subst (λ (o : Option Element). HoldsWith o c.args.self.now.builder rs) c.in-Some.is h)

pub returns-in-None : goal.returns-in-None
returns-in-None c = λ rs h. (
  λ t. (let z : false ≡ true = t in cc),
  λ g. absurd (end_outside c.args.self.now.builder rs
      (subst (λ (o : Option Element). HoldsWith o c.args.self.now.builder rs) c.in-None.is h) g),
)
