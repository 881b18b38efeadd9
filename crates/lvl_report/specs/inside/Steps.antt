-- What the steps towards the line beside an answer return.
use Rattle.std.specs.Prelude.{⊤, ℕ, Option, Some, None, IfNone}
use Rattle.lvl.specs.Steps.{DifferInSteps}
use Rattle.lvl.specs.declared.question.Answer.{Answer}
use Rattle.lvl_units.specs.Steps.{Fraction, IsNearest}

-- the number is nearest to the length, or neither is there
abbrev pub IsRoundedTo : Option Fraction → Option ℕ → Type 0
IsRoundedTo (Some f) (Some n) = IsNearest f n
IsRoundedTo None None = ⊤
IsRoundedTo _ _ = ⊥

-- if the files of an answer weren't compared, their grid steps differ
abbrev pub DifferUnlessJudged : Answer → Type 0
DifferUnlessJudged r = IfNone r.judged (DifferInSteps r.first r.second)
