-- What writing a text does to a writer, and the statuses with which a run ends (own rule).
use Rattle.std.specs.Prelude.{ℕ, List, ◌++◌, ◌≡◌, Option, Some, None, Bool, true, false, Result, Ok, Err}
use Rattle.std.specs.Io.KnownBytes.{Appends}
use Rattle.lvl_report.specs.declared.status.Status.{Status}
use Rattle.lvl_report.specs.declared.status.Status.TheVariants.{Same, Differ, Shown as ShownStatus, Refused}
use Rattle.lvl_report.specs.declared.status.RunFault.{RunFault}
use Rattle.lvl_report.specs.declared.status.RunFault.TheVariants.{Output, OutOfMemory}
use Rattle.lvl.specs.declared.verdict.Verdict.{Verdict}
use Rattle.lvl.specs.declared.verdict.Verdict.TheVariants.{Same as SameVerdict, Differ as DifferVerdict}
use Rattle.lvl.specs.declared.question.Answer.{Answer}
use Rattle.lvl.specs.declared.question.Judged.{Judged}
use Rattle.lvl.specs.declared.verdict.Refusal.{Refusal}

-- a beginning of the text was added to the known bytes, perhaps nothing or all of it
pub record AppendsBeginning (old new : Option (List ℕ)) (text : List ℕ) : Type 0 where
  pub front : List ℕ
  pub rest : List ℕ
  pub split : text ≡ front ++ rest
  pub appended : Appends old new front

-- the exit status of the program if an answer was written
abbrev pub status_code : Status → ℕ
status_code Same = 0
status_code Differ = 1
status_code ShownStatus = 0
status_code Refused = 2

-- the exit status of the program if no answer was written whole
abbrev pub fault_code : RunFault → ℕ
fault_code Output = 4
fault_code OutOfMemory = 2

-- the status of a verdict
abbrev pub verdict_status : Verdict → Status
verdict_status SameVerdict = Same
verdict_status (DifferVerdict layer square side) = Differ

-- a run ends in the one way that its answer gives
abbrev pub ends_by : {X T : Type 0} → (X → T) → X → T → Type 0
ends_by end_of answer ended = ended ≡ end_of answer

-- the status of files that were compared, or weren't
abbrev pub judged_status : Option Judged → Status
judged_status (Some j) = verdict_status j.verdict
judged_status None = Refused

-- the status of an answer about two files
abbrev pub status_of : Result Answer Refusal → Status
status_of (Ok r) = judged_status r.judged
status_of (Err refusal) = Refused

-- the status of an answer about one file
abbrev pub shown_status : {X : Type 0} → Result X Refusal → Status
shown_status (Ok x) = ShownStatus
shown_status (Err refusal) = Refused

-- whether the run failed in writing its output
abbrev pub is_output : {A : Type 0} → Result A RunFault → Bool
is_output (Ok a) = false
is_output (Err Output) = true
is_output (Err OutOfMemory) = false
