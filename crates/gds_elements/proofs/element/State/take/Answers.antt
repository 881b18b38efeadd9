use Rattle.std.proofs.Common.{subst}
use Rattle.gds_elements.specs.inside.Reading.{HasRead}
use Rattle.gds_elements.specs.declared.element.State.{State}
use Rattle.gds_elements.proofs.element.State.take.Goals as goal

pub returns-in-Boundary : goal.returns-in-Boundary
returns-in-Boundary c = λ piece d h.
    c.take.ensures c.args.profile piece d (subst (λ (s : State). HasRead s piece) c.in-Boundary.is h)

pub returns-in-Path : goal.returns-in-Path
returns-in-Path c = λ piece d h.
    c.take-in-Path.ensures piece d (subst (λ (s : State). HasRead s piece) c.in-Path.is h)

pub returns-in-Sref : goal.returns-in-Sref
returns-in-Sref c = λ piece d h.
    c.take-in-Sref.ensures c.args.profile piece d (subst (λ (s : State). HasRead s piece) c.in-Sref.is h)

pub returns-in-Aref : goal.returns-in-Aref
returns-in-Aref c = λ piece d h.
    c.take-in-Aref.ensures piece d (subst (λ (s : State). HasRead s piece) c.in-Aref.is h)

pub returns-in-Text : goal.returns-in-Text
returns-in-Text c = λ piece d h.
    c.take-in-Text.ensures c.args.profile piece d (subst (λ (s : State). HasRead s piece) c.in-Text.is h)
