use Rattle.std.proofs.Common.{refl, subst, ◌++◌, ◌∷◌, []}
use Rattle.std.specs.Prelude.{Option}
use Rattle.gds_elements.specs.inside.Reading.{record_of, IsStep}
use Rattle.gds_elements.specs.declared.element.Element.{Element}
use Rattle.gds_elements.specs.declared.element.Step.{Step}
use Rattle.gds_library.specs.inside.Holds.{HoldsWith}
use Rattle.gds_library.proofs.Steps.{says_inside, law_inside, law_whole, whole_word, none_open}
use Rattle.gds_library.proofs.reading.Reading.take.Goals as goal

pub returns-in-Ok-Open : goal.returns-in-Ok-Open
returns-in-Ok-Open c = λ rs d h.
    let r = record_of c.args.kind d c.args.payload.now in
    let i = subst (λ (o : Option Element). HoldsWith o c.args.self.now.builder rs) c.in-Some.is h in
    law_inside c.args.profile c.args.self.now.builder c.in-Some.element c.take.new.self rs r i
    (subst (λ (s : Step). IsStep c.take.new.self s (i.piece ++ r ∷ [])) c.in-Ok-Open.field-0-is
    (c.in-Ok-Open.ensures.going i.piece r i.reading refl refl))
    (c.in-Ok-Open.ensures.allowed i.piece r i.reading refl refl)

pub returns-in_ok-add_element-in-Ok-Whole : goal.returns-in_ok-add_element-in-Ok-Whole
returns-in_ok-add_element-in-Ok-Whole c = λ rs d h.
    let r = record_of c.args.kind d c.args.payload.now in
    let i = subst (λ (o : Option Element). HoldsWith o c.args.self.now.builder rs) c.in-Some.is h in
    let e = c.in_ok-add_element-in-Ok-Whole.ensures in
    let step = subst (λ (s : Step). IsStep c.take.new.self s (i.piece ++ r ∷ [])) c.in-Ok-Whole.field-0-is
    (c.in-Ok-Whole.ensures.going i.piece r i.reading refl refl) in
    let whole = law_whole c.args.profile c.args.self.now.builder c.add_element.new.self c.in-Some.element rs r i
    (whole_word c.take.new.self (i.piece ++ r ∷ []) step) (c.in-Ok-Whole.ensures.allowed i.piece r i.reading refl refl)
    e.stage e.version e.units (e.shown (i.piece ++ r ∷ []) step i.at) in
    (none_open c.add_element.new.self _ (rs ++ r ∷ []) c.close.ensures whole.0, whole.1)

pub returns-in-Err : goal.returns-in-Err
returns-in-Err c = λ rs d h.
    let r = record_of c.args.kind d c.args.payload.now in
    let i = subst (λ (o : Option Element). HoldsWith o c.args.self.now.builder rs) c.in-Some.is h in
    says_inside c.args.profile c.args.self.now.builder c.in-Some.element rs r c.in-Err.refusal c.lifted.result i
    c.lifted.ensures
    (c.in-Err.ensures.refused i.piece r i.reading refl refl) (c.in-Err.ensures.alone i.piece r i.reading refl refl)

pub returns-in-None : goal.returns-in-None
returns-in-None c =
    λ rs d h. c.take_outside.ensures rs d (subst (λ (o : Option Element). HoldsWith o c.args.self.now.builder rs)
    c.in-None.is h)
