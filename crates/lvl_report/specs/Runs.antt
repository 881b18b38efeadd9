-- What a run may write: the text of an answer, or a beginning of it if the output fails.
use Rattle.std.specs.Prelude.{ℕ, false, List, Option, Result, IfErr, IfOk, OnErr, OnOk}
use Rattle.std.specs.Io.KnownBytes.{Appends}
use Rattle.lvl_region.specs.declared.region.Side.TheVariants.{First}
use Rattle.lvl_view.specs.Views.{IsWhole, PlainView}
use Rattle.lvl.specs.Digested.{IsDigestedFile}
use Rattle.lvl.specs.Listings.{IsListedFile}
use Rattle.lvl.specs.Questions.{Asked, IsAnswerBy}
use Rattle.lvl.specs.Readers.{Input, IsFoundBy}
use Rattle.lvl.specs.Shown.{IsShownFile}
use Rattle.lvl.specs.Sides.{IsOfFile}
use Rattle.lvl.specs.declared.cells.CellList.{CellList}
use Rattle.lvl.specs.declared.digested.Digested.{Digested}
use Rattle.lvl.specs.declared.question.Answer.{Answer}
use Rattle.lvl.specs.declared.shown.Shown.{Shown}
use Rattle.lvl.specs.declared.verdict.Refusal.{Refusal}
use Rattle.lvl_report.specs.Hints.{IsOutcomeOf, IsShownOutcome}
use Rattle.lvl_report.specs.Texts.{text_of, text_of_digested, text_of_list, text_of_shown}
use Rattle.lvl_report.specs.Writing.{AppendsBeginning}
use Rattle.lvl_report.specs.declared.outcome.Outcome.{Outcome}
use Rattle.lvl_report.specs.declared.runs.Wanted.{Wanted}
use Rattle.lvl_report.specs.declared.runs.Wanted.TheVariants.{Cells, Digest, Show}
use Rattle.lvl_report.specs.declared.status.RunFault.{RunFault}

-- the text was written and the run ends as `Ends` says, or a beginning of the text was written, perhaps nothing or all
pub record IsTold {T : Type 0} (text : List ℕ) (Ends : T → Type 0) (old new : Option (List ℕ))
    (result : Result T RunFault) : Type 0 where
  pub whole : OnOk result (Appends old new text)
  pub ends : IfOk result Ends
  pub begun : OnErr result (AppendsBeginning old new text)

-- the text of an answer that is allowed was written, and the run ends as it may for this answer
pub record IsRun {X T : Type 0} (Allowed : X → Type 0) (text : X → List ℕ) (Ends : X → T → Type 0)
    (old new : Option (List ℕ)) (result : Result T RunFault) : Type 0 where
  pub answer : X
  pub allowed : Allowed answer
  pub told : IsTold (text answer) (Ends answer) old new result

-- what is asked if two files are compared under a view, and nothing else
abbrev pub only : PlainView → Asked
only view = record { view = view; why = false; units = false }

-- the answer is possible for the comparison of two files without a map and a window
abbrev pub IsComparedBy : Input → Input → Result Answer Refusal → Type 0
IsComparedBy a b answer = (view : PlainView) × IsWhole view × IsAnswerBy (only view) a b answer

-- the answer is possible for showing the file
abbrev pub IsShownBy : Input → Result Shown Refusal → Type 0
IsShownBy = IsFoundBy IsShownFile

-- the answer is possible for the digest of the file
abbrev pub IsDigestedBy : Input → Result Digested Refusal → Type 0
IsDigestedBy = IsFoundBy IsDigestedFile

-- the answer is possible for the list of the file's cells; a refusal is that the file wasn't read, or out of memory
pub record IsListedBy (a : Input) (answer : Result CellList Refusal) : Type 0 where
  pub found : IsFoundBy IsListedFile a answer
  pub read_only : IfErr answer (IsOfFile First)

-- a run on two files by a question: the text of a possible answer was written
abbrev pub IsQuestionRun : Asked → Input → Input → Option (List ℕ) → Option (List ℕ)
    → Result Outcome RunFault → Type 0
IsQuestionRun q a b = IsRun (IsAnswerBy q a b) text_of (IsOutcomeOf a.profile)

-- a run on one file by what is wanted of it: the text of a possible answer was written
abbrev pub IsFileRun : Wanted → Input → Option (List ℕ) → Option (List ℕ) → Result Outcome RunFault → Type 0
IsFileRun Show a = IsRun (IsShownBy a) text_of_shown (IsShownOutcome a.profile)
IsFileRun Digest a = IsRun (IsDigestedBy a) text_of_digested (IsShownOutcome a.profile)
IsFileRun Cells a = IsRun (IsListedBy a) text_of_list (IsShownOutcome a.profile)
