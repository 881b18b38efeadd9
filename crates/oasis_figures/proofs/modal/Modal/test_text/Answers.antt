use Rattle.std.proofs.Common.{◌∷◌, sym, ◌∙◌}
use Rattle.oasis_figures.specs.Rules.{is_defined}
use Rattle.oasis_figures.specs.inside.Taking.{a_text}
use Rattle.oasis_figures.specs.declared.variable.Variable.TheVariants.{Repetition as TheRepetition}
use Rattle.oasis_figures.proofs.Defined.{known, unknown, repeated, no_rule, undefined_breached}
use Rattle.oasis_figures.proofs.Texts.{no_later}
use Rattle.oasis_figures.proofs.modal.Modal.test_text.Goals as goal

pub returns-then-not-is_known-clause-err : goal.returns-then-not-is_known-clause-err
returns-then-not-is_known-clause-err c = λ ignore earlier s.
    let r = c.args.repetition.now in
    let m = c.args.self.now in
    undefined_breached ignore earlier (a_text r) TheRepetition
    (unknown (is_defined (a_text r ∷ earlier)) r m.repetition (repeated m earlier (a_text r) s)
    (sym c.is_known.ensures ∙ c.if-not-is_known.true))

pub returns-clause-ok : goal.returns-clause-ok
returns-clause-ok c = λ ignore earlier s.
    let r = c.args.repetition.now in
    let m = c.args.self.now in
    no_rule ignore earlier (a_text r)
    (known (is_defined (a_text r ∷ earlier)) r m.repetition (repeated m earlier (a_text r) s)
    (sym c.is_known.ensures ∙ c.if-not-is_known.false)) (λ w. w) (λ w. w) (no_later ignore earlier r)
