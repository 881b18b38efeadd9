use Rattle.gds_elements.proofs.Taking.{steps_record, steps_going, steps_allowed, steps_refused, steps_alone}
use Rattle.gds_elements.proofs.element.Element.take.Goals as goal

pub returns-clause-going : goal.returns-clause-going
returns-clause-going c = λ piece r h e f.
    steps_going _ c.args.profile piece r c.step.result
    (steps_record _ c.args.profile piece r c.args.kind c.args.payload.now c.step.result e f
    (λ d. c.step.ensures piece d h))

pub returns-clause-allowed : goal.returns-clause-allowed
returns-clause-allowed c = λ piece r h e f.
    steps_allowed _ c.args.profile piece r c.step.result
    (steps_record _ c.args.profile piece r c.args.kind c.args.payload.now c.step.result e f
    (λ d. c.step.ensures piece d h))

pub returns-clause-refused : goal.returns-clause-refused
returns-clause-refused c = λ piece r h e f.
    steps_refused _ c.args.profile piece r c.step.result
    (steps_record _ c.args.profile piece r c.args.kind c.args.payload.now c.step.result e f
    (λ d. c.step.ensures piece d h))

pub returns-clause-alone : goal.returns-clause-alone
returns-clause-alone c = λ piece r h e f.
    steps_alone _ c.args.profile piece r c.step.result
    (steps_record _ c.args.profile piece r c.args.kind c.args.payload.now c.step.result e f
    (λ d. c.step.ensures piece d h))
