-- What is done for a command line: a job, or a refusal.
use Rattle.std.specs.Prelude.{◌≡◌, ℕ, List, Option, Result}
use Rattle.std.specs.Io.KnownBytes.{Keeps}
use Rattle.lvl_line.specs.Line.{IsJob, IsRefusal}
use Rattle.lvl_line.specs.declared.job.Job.{Job}
use Rattle.lvl_line.specs.declared.job.LineFault.{LineFault}
use Rattle.lvl_line.specs.declared.job.LineFault.TheVariants as line_fault
use Rattle.lvl_report.specs.declared.outcome.Outcome.{Outcome}
use Rattle.lvl_job.specs.declared.fault.JobFault.{JobFault}
use Rattle.lvl_job.specs.declared.fault.JobFault.TheVariants.{OutOfMemory}
use Rattle.lvl_job.specs.declared.files.Look.{Look}
use Rattle.lvl_job.specs.Done.{Change, IsDone, IsSaidOn}
use Rattle.lvl_job.specs.Ends.{end_code, fault_text}
use Rattle.lvl_job.specs.Opening.{Opened}

-- the words ask for a job; it was done, and this is its exit status
pub record IsLineDone {S : Type 0} (opens : S → List ℕ → Opened → S → Type 0) (looks : S → List ℕ → Look → Type 0)
    (words : List (List ℕ)) (old new : S) (out err : Change) (code : ℕ) : Type 0 where
  pub job : Job
  pub asked : IsJob words job
  pub ended : Result Outcome JobFault
  pub done : IsDone opens looks job old new out err ended
  pub status : code ≡ end_code ended

-- what is written to standard error if the line is refused; the text of `clap`'s error is left open
abbrev pub IsRefusalSaid : LineFault → Change → Type 0
IsRefusalSaid (line_fault.Words error) err =
    (text : List ℕ) × IsSaidOn err text
IsRefusalSaid line_fault.OutOfMemory err = IsSaidOn err (fault_text OutOfMemory)

-- the words are refused, or an allocation failed: no file was opened, nothing was written to the output, and the exit
-- status is 3
pub record IsLineRefused {S : Type 0} (words : List (List ℕ)) (old new : S) (out err : Change) (code : ℕ) : Type 0 where
  pub fault : LineFault
  pub refused : IsRefusal words fault
  pub unopened : new ≡ old
  pub unwritten : Keeps out.old out.new
  pub said : IsRefusalSaid fault err
  pub status : code ≡ 3
