use Rattle.std.proofs.Common.{◌≡◌, refl, sym, ◌∙◌, true, false, ◌++◌, ◌∷◌, []}
use Rattle.gds_elements.specs.inside.Reading.{record_of}
use Rattle.gds_library.proofs.Places.{OpensNothing}
use Rattle.gds_library.proofs.Refusing.{says_fault}
use Rattle.gds_library.proofs.Steps.{takes_refused, law_opens, law_holds, law_allowed, none_open, KeepsHead}
use Rattle.gds_library.proofs.reading.Reading.take_outside.Goals as goal
use Rattle.gds_library.proofs.reading.Reading.take_outside.Goals.{then-may_open+in_default, else-may_open}

pub returns-in-Some : goal.returns-in-Some
returns-in-Some c = λ rs d h.
    let r = record_of c.args.kind d c.args.payload.now in
    law_opens c.args.profile c.args.self.now.builder c.in-Some.element rs r h (c.may_open.ensures.0 c.if-may_open.true)
    (c.in-Some.ensures.opened r refl)

pub returns-in_err-take : goal.returns-in_err-take
returns-in_err-take c = λ rs d h.
    let r = record_of c.args.kind d c.args.payload.now in
    let e = c.in_err-take.field-0.0 in
    let o : OpensNothing c.args.self.now.builder.stage c.args.kind = elim c.if-may_open.branch [
      | then-may_open+in_default w ↦ λ p. w.in_default.ensures.none
      | else-may_open w ↦ λ p. (let t : true ≡ false = sym (c.may_open.ensures.1 p) ∙ w.if-may_open.false in cc)
    ] in
    takes_refused c.args.profile rs r _ c.from_residual.result e c.from_residual.ensures
    (says_fault c.args.profile c.args.self.now.builder rs r e h o c.requires.formed.known c.in_err-take.ensures.refused)

pub returns : goal.returns
returns c = λ rs d h.
    let r = record_of c.args.kind d c.args.payload.now in
    let e = c.in_ok-take.ensures in
    let head : KeepsHead c.args.self.now.builder c.take.new.self c.args.kind c.args.payload.now =
    record { version = e.version; units = e.units } in
    let next = law_holds c.args.self.now.builder c.take.new.self rs r h e.stage e.shown head in (
      none_open c.take.new.self _ (rs ++ r ∷ []) c.requires.none next,
      law_allowed c.args.profile c.args.self.now.builder c.take.new.self rs r h next c.requires.formed.known e.stage
          e.allowed,
    )
