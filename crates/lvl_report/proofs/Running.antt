-- What a run wrote, by its answer.
use Rattle.std.proofs.Common.{◌≡◌, ℕ, Bool, true, false, List, Option, Some, None, Result, Ok, Err, IfOk, refl}
use Rattle.std.specs.Prelude.{IfNone, IsErrAnd}
use Rattle.std.specs.Io.KnownBytes.{Keeps}
use Rattle.lvl_report.specs.declared.status.RunFault.{RunFault}
use Rattle.lvl.specs.Questions.{IsBySteps, IsComparedIf}
use Rattle.lvl.specs.Steps.{DifferInSteps}
use Rattle.lvl.specs.declared.question.Answer.{Answer}
use Rattle.lvl.specs.declared.question.Judged.{Judged}
use Rattle.lvl.specs.declared.verdict.Refusal.{Refusal}
use Rattle.lvl_report.specs.Runs.{IsRun}
use Rattle.lvl_report.specs.inside.Steps.{DifferUnlessJudged}

-- known bytes stay the same
pub keeps_same : (a : Option (List ℕ)) → Keeps a a
keeps_same None = tt
keeps_same (Some xs) = refl

module _ {X T : Type 0} {Allowed : X → Type 0} (text : X → List ℕ) (Ends : X → T → Type 0) (old new : Option (List ℕ))
  where
    -- a run of an answer that one set allows is a run of one that a larger one does
    pub run_as : {Others : X → Type 0} (r : Result T RunFault) → ((answer : X) → Allowed answer → Others answer)
        → IsRun Allowed text Ends old new r → IsRun Others text Ends old new r
    run_as r also run = record { answer = run.answer; allowed = also run.answer run.allowed; told = run.told }

    module _ {U : Type 0} (Then : X → U → Type 0) where
      -- a run that returns a part of what another returns
      pub run_part : (part : T → U) → ((answer : X) (t : T) → Ends answer t → Then answer (part t)) → (ended : T)
          → IsRun Allowed text Ends old new (Ok ended) → IsRun Allowed text Then old new (Ok (part ended))
      run_part part so ended run = record {
        answer = run.answer;
        allowed = run.allowed;
        told = record { whole = run.told.whole; ends = so run.answer ended run.told.ends; begun = tt };
      }

      -- and one that fails as another does
      pub run_failed : (r : Result U RunFault) (fault : RunFault) → IsErrAnd r (λ e. e ≡ fault)
          → IsRun Allowed text Ends old new (Err fault) → IsRun Allowed text Then old new r
      run_failed (Ok x) fault is run = absurd is
      run_failed (Err e) fault is run = record {
        answer = run.answer;
        allowed = run.allowed;
        told = record { whole = tt; ends = tt; begun = run.told.begun };
      }

-- files that weren't compared differ in their steps
pub differ_unless : (units : Bool) (r : Result Answer Refusal) → IfOk r (IsBySteps units) → IfOk r DifferUnlessJudged
differ_unless units (Err e) h = tt
differ_unless units (Ok a) h = go units a.judged h
  where
    go : (units : Bool) (judged : Option Judged) → IsComparedIf units a.first a.second judged
        → IfNone judged (DifferInSteps a.first a.second)
    go units (Some j) h = tt
    go true None h = h
    go false None h = absurd h
