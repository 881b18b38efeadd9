-- What the steps of a job return.
use Rattle.std.specs.Prelude.{⊤, ℕ, List, Option, Result, String, string_bytes}
use Rattle.std.specs.Global.{Global}
use Rattle.lvl.specs.Questions.{asked}
use Rattle.lvl.specs.Sides.{given_name}
use Rattle.lvl.specs.declared.question.Question.{Question}
use Rattle.lvl_report.specs.Runs.{IsQuestionRun}
use Rattle.lvl_report.specs.declared.outcome.Outcome.{Outcome}
use Rattle.lvl_report.specs.declared.status.RunFault.{RunFault}
use Rattle.lvl_report.specs.declared.status.RunFault.TheVariants.{Output as RunOutput, OutOfMemory as RunOutOfMemory}
use Rattle.lvl_view.specs.Views.{IsFaultOf}
use Rattle.lvl_job.specs.declared.fault.JobFault.{JobFault}
use Rattle.lvl_job.specs.declared.fault.JobFault.TheVariants.{BadView, BadIgnore, NotOpened, OutOfMemory, Output}
use Rattle.lvl_job.specs.declared.fault.JobFault.TheVariants.{BadLine, LongList, UnreadList}
use Rattle.lvl_job.specs.Jobs.{IsIgnoreFault, OfTwo}
use Rattle.lvl_job.specs.Opening.{Opened}

-- why two texts give no view
abbrev pub IsViewFault : Option (List ℕ) → Option (List ℕ) → JobFault → Type 0
IsViewFault map_text window_text (BadView fault) = IsFaultOf map_text window_text fault
IsViewFault map_text window_text (BadIgnore fault) = ⊥
IsViewFault map_text window_text (NotOpened name why) = ⊥
IsViewFault map_text window_text (UnreadList name) = ⊥
IsViewFault map_text window_text (LongList name) = ⊥
IsViewFault map_text window_text (BadLine name n) = ⊥
IsViewFault map_text window_text OutOfMemory = ⊤
IsViewFault map_text window_text Output = ⊥

-- why a text gives no set of what is ignored
abbrev pub IsNoIgnore : Option (List ℕ) → JobFault → Type 0
IsNoIgnore text (BadView fault) = ⊥
IsNoIgnore text (BadIgnore fault) = IsIgnoreFault text
IsNoIgnore text (NotOpened name why) = ⊥
IsNoIgnore text (UnreadList name) = ⊥
IsNoIgnore text (LongList name) = ⊥
IsNoIgnore text (BadLine name n) = ⊥
IsNoIgnore text OutOfMemory = ⊤
IsNoIgnore text Output = ⊥

-- the fault of a run as one of its job
abbrev pub fault_of_run : RunFault → JobFault
fault_of_run RunOutput = Output
fault_of_run RunOutOfMemory = OutOfMemory

-- a run on the files of two names by a question: they were opened, and the run ended with this result
abbrev pub IsPairRun : {S : Type 0} → (S → List ℕ → Opened → S → Type 0) → Question → String Global → String Global
    → S → S → Option (List ℕ) → Option (List ℕ) → Result Outcome RunFault → Type 0
IsPairRun opens q first second old new from to ended =
    OfTwo opens old new
    (record { profile = q.profile; name = string_bytes first; top = given_name q.tops.now.first })
    (record { profile = q.profile; name = string_bytes second; top = given_name q.tops.now.second })
    (λ a b. IsQuestionRun (asked q) a b from to ended)
