-- What is asked about two files, and what is an answer (own rule).
use Rattle.std.specs.Prelude.{◌≡◌, ⊤, ℕ, Bool, true, false, List, Option, Some, None, Result, Err}
use Rattle.std.specs.Prelude.{IsTrue, IfOk, IfErr, IfSome}
use Rattle.lvl_count.specs.Drawn.{first_undrawn}
use Rattle.lvl_view.specs.Views.{IsWhole, PlainView, sources}
use Rattle.lvl_why.specs.declared.why.Why.{Why}
use Rattle.lvl_region.specs.declared.region.Side.TheVariants.{First, Second}
use Rattle.lvl.specs.Accepted.{IsVerdict}
use Rattle.lvl.specs.Kept.{IsKeptVerdict, Kept}
use Rattle.lvl.specs.Layouts.{File, HasHead}
use Rattle.lvl.specs.Readers.{Input, IsReadBy, IsUntouched, file_of, refusal_of}
use Rattle.lvl.specs.Reasons.{IsKeptReason, IsReasonIn}
use Rattle.lvl.specs.Steps.{AgreeInSteps, DifferInSteps}
use Rattle.lvl.specs.Views.{IsViewVerdict}
use Rattle.lvl.specs.declared.layout.FileFault.{FileFault}
use Rattle.lvl.specs.declared.layout.Head.{Head}
use Rattle.lvl.specs.declared.question.Answer.{Answer}
use Rattle.lvl.specs.declared.question.Judged.{Judged}
use Rattle.lvl.specs.declared.question.Question.{Question}
use Rattle.lvl.specs.declared.verdict.Refusal.{Refusal}
use Rattle.lvl.specs.declared.verdict.Refusal.TheVariants.{File as FileRefusal, Cells as CellsRefusal}
use Rattle.lvl.specs.declared.verdict.Refusal.TheVariants.{Flat as FlatRefusal, OutOfMemory}
use Rattle.lvl.specs.declared.verdict.Verdict.{Verdict}

-- what is asked about two files: under which view they are compared, whether the reason for a difference is asked for,
-- and whether they are compared only if their grid steps agree
pub record Asked : Type 0 where
  pub view : PlainView
  pub why : Bool
  pub units : Bool

-- what a question asks; its tops and its profile are those of the files
abbrev pub asked : Question → Asked
asked q = record { view = q.view.now; why = q.why; units = q.units }

-- a reason of which Holds is true if it is asked for, else none
abbrev pub IfAsked : Bool → (Option Why → Type 0) → Option Why → Type 0
IfAsked true Holds why = Holds why
IfAsked false Holds why = why ≡ None

-- the verdict is true of both files under the view, which without pairs and window is that on the whole files; the
-- Layer is the first source of the map on which no cell of the second file has a shape; and the reason is that of the
-- verdict
pub record IsJudged (q : Asked) (a b : File) (j : Judged) : Type 0 where
  pub verdict : IsViewVerdict q.view a b j.verdict
  pub whole : IsWhole q.view → IsVerdict a b j.verdict
  pub undrawn : j.undrawn ≡ first_undrawn verdict.both.theirs (sources q.view.pairs)
  pub why : IfAsked q.why (IsReasonIn q.view a b j.verdict) j.why

-- an answer to the question on both files: their heads, and how they compare if they were compared
pub record IsAnswer (q : Asked) (a b : File) (r : Answer) : Type 0 where
  pub first : HasHead a.profile a.bytes r.first
  pub second : HasHead b.profile b.bytes r.second
  pub judged : IfSome r.judged (IsJudged q a b)

-- two files with these heads are compared; if their grid steps must agree, only if they do
abbrev pub IsComparedIf : Bool → Head → Head → Option Judged → Type 0
IsComparedIf true first second (Some j) = AgreeInSteps first second
IsComparedIf true first second None = DifferInSteps first second
IsComparedIf false first second (Some j) = ⊤
IsComparedIf false first second None = ⊥

-- whether the files of an answer were compared goes by their grid steps, if these must agree
abbrev pub IsBySteps : Bool → Answer → Type 0
IsBySteps units r = IsComparedIf units r.first r.second r.judged

-- both files have heads that agree in their grid steps
pub record HaveSameSteps (a b : File) : Type 0 where
  pub first : Head
  pub second : Head
  pub first_is : HasHead a.profile a.bytes first
  pub second_is : HasHead b.profile b.bytes second
  pub agree : AgreeInSteps first second

-- if the refusal comes after both files were read, their grid steps agree; out of memory is always possible
abbrev pub IsAfterSteps : File → File → Refusal → Type 0
IsAfterSteps a b (FileRefusal side fault) = ⊤
IsAfterSteps a b (CellsRefusal side fault) = HaveSameSteps a b
IsAfterSteps a b (FlatRefusal side fault) = HaveSameSteps a b
IsAfterSteps a b OutOfMemory = ⊤

-- the result is possible for the question on two readers; the second isn't read if the first file is refused while it
-- is read
pub record IsAnswerBy (q : Asked) (a b : Input) (result : Result Answer Refusal) : Type 0 where
  pub found : (xs ys : List ℕ) → a.bytes ≡ Some xs → b.bytes ≡ Some ys
      → IfOk result (IsAnswer q (file_of a xs) (file_of b ys))
  pub steps : IfOk result (IsBySteps q.units)
  pub after_steps : (xs ys : List ℕ) → a.bytes ≡ Some xs → b.bytes ≡ Some ys → IsTrue q.units
      → IfErr result (IsAfterSteps (file_of a xs) (file_of b ys))
  pub first : IsReadBy First a (refusal_of result)
  pub second : IsReadBy Second b (refusal_of result)
  pub kept : (fault : FileFault) → result ≡ Err (FileRefusal First fault) → IsUntouched b

-- ---- the steps towards it

-- the answer has this verdict
abbrev pub IsVerdictIn : Result Answer Refusal → Verdict → Type 0
IsVerdictIn answer v = IfOk answer (λ r. IfSome r.judged (λ j. j.verdict ≡ v))

-- how two libraries of rings compare
pub record IsKeptJudged (q : Asked) (a b : Kept) (j : Judged) : Type 0 where
  pub verdict : IsKeptVerdict q.view a b j.verdict
  pub undrawn : j.undrawn ≡ first_undrawn b.cells (sources q.view.pairs)
  pub why : IfAsked q.why (IsKeptReason q.view a b j.verdict) j.why
