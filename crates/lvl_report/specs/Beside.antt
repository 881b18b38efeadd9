-- What is said beside an answer: that the grid steps of two files differ, that the map says nothing of the second, or
-- which cells could be the top (own rule).
use Rattle.std.specs.Prelude.{◌≡◌, ℕ, List, ◌++◌, codes, decimal, Option, Some, None, Result, Ok, Err, option_map}
use Rattle.lvl_names.specs.declared.layer.Layer.{Layer}
use Rattle.lvl.specs.declared.layout.Head.{Head}
use Rattle.lvl.specs.declared.question.Answer.{Answer}
use Rattle.lvl.specs.declared.question.Judged.{Judged}
use Rattle.lvl.specs.declared.verdict.Refusal.{Refusal}
use Rattle.lvl_report.specs.Steps.{AreStepsSaid, IsDifferenceSaid}
use Rattle.lvl_report.specs.Texts.{line}
use Rattle.lvl_report.specs.Tops.{line_of_one, line_of_two}

-- the line for a source of the map on which no cell of the second file has a shape
abbrev pub undrawn_text : Layer → List ℕ
undrawn_text layer =
    line (codes "lvl: no shape of the second file is on layer " ++ decimal layer.layer ++ codes " datatype "
    ++ decimal layer.datatype ++ codes ", a source of --map")

-- a line, if there is one, and then another, if there is one
abbrev pub one_after : Option (List ℕ) → Option (List ℕ) → Option (List ℕ)
one_after None second = second
one_after (Some first) None = Some first
one_after (Some first) (Some second) = Some (first ++ second)

-- what is said beside a verdict
pub record IsSaidBeside (first second : Head) (undrawn : Option Layer) (text : Option (List ℕ)) : Type 0 where
  pub steps : Option (List ℕ)
  pub steps_said : AreStepsSaid first second steps
  pub text_is : text ≡ one_after steps (option_map undrawn_text undrawn)

-- what is said of files that were compared, or in place of a verdict
abbrev pub IsSaidOf : Head → Head → Option Judged → Option (List ℕ) → Type 0
IsSaidOf first second (Some j) text = IsSaidBeside first second j.undrawn text
IsSaidOf first second None text = IsDifferenceSaid first second text

-- what is said beside an answer on two files: of a refusal, which cells could be the top
abbrev pub IsLineOf : Result Answer Refusal → Option (List ℕ) → Type 0
IsLineOf (Ok r) text = IsSaidOf r.first r.second r.judged text
IsLineOf (Err refusal) text = text ≡ line_of_two refusal

-- what is said beside an answer on one file
abbrev pub IsLineOfOne : {X : Type 0} → Result X Refusal → Option (List ℕ) → Type 0
IsLineOfOne (Ok x) text = text ≡ None
IsLineOfOne (Err refusal) text = text ≡ line_of_one refusal
