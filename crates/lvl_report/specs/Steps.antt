-- The line that says that the grid steps of two files differ (own rule).
use Rattle.std.specs.Prelude.{◌≡◌, ℕ, zero, suc, ◌+◌, ◌/◌, ◌%◌, ◌^◌, ◌==◌, if◌then◌else◌, List, [], ◌∷◌, ◌++◌, codes}
use Rattle.std.specs.Prelude.{decimal, Option, Some, None}
use Rattle.lvl.specs.Steps.{AgreeInSteps, DifferInSteps, HasNoStep, IsReadStep}
use Rattle.lvl.specs.declared.layout.Head.{Head}
use Rattle.lvl_report.specs.Texts.{line}
use Rattle.lvl_units.specs.Steps.{Fraction, IsNearest}

-- the length of a step, in the nearest number of millionths of a nanometre; None if it isn't readable
abbrev pub IsRounded : Head → Option ℕ → Type 0
IsRounded head None = HasNoStep head
IsRounded head (Some n) = (f : Fraction) × IsReadStep head f × IsNearest f n

-- the digits after the point, without zeros at the end: r divided by 10^k, where r is less
abbrev pub decimals : ℕ → ℕ → List ℕ
decimals zero r = []
decimals (suc k) r = if r == 0 then [] else (48 + r / 10 ^ k) ∷ decimals k (r % 10 ^ k)

-- a point and these digits, if there are any
abbrev pub fraction_text : ℕ → List ℕ
fraction_text r = if r == 0 then [] else codes "." ++ decimals 6 r

-- a number of millionths of a nanometre, in nanometres
abbrev pub length_text : Option ℕ → List ℕ
length_text None = codes "an unreadable unit"
length_text (Some n) = decimal (n / 10 ^ 6) ++ fraction_text (n % 10 ^ 6) ++ codes " nm"

-- the line for two lengths
abbrev pub steps_text : Option ℕ → Option ℕ → List ℕ
steps_text first second =
    line (codes "lvl: the grid steps differ: " ++ length_text first ++ codes " in the first file, "
    ++ length_text second ++ codes " in the second")

-- the line says that the steps differ, or that one of them isn't readable
pub record IsStepsLine (first second : Head) (text : List ℕ) : Type 0 where
  pub ours : Option ℕ
  pub theirs : Option ℕ
  pub first_is : IsRounded first ours
  pub second_is : IsRounded second theirs
  pub differ : DifferInSteps first second
  pub text_is : text ≡ steps_text ours theirs

-- there is such a line
abbrev pub IsDifferenceSaid : Head → Head → Option (List ℕ) → Type 0
IsDifferenceSaid first second None = ⊥
IsDifferenceSaid first second (Some text) = IsStepsLine first second text

-- there is such a line, or the steps of both files agree
abbrev pub AreStepsSaid : Head → Head → Option (List ℕ) → Type 0
AreStepsSaid first second None = AgreeInSteps first second
AreStepsSaid first second (Some text) = IsStepsLine first second text
