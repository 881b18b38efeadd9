use Rattle.lvl_report.specs.inside.Steps.{DifferUnlessJudged}
use Rattle.lvl_report.proofs.beside.line_beside.Goals as goal

pub difference_line-requires : goal.difference_line-requires
difference_line-requires c =
    let known : DifferUnlessJudged c.in-Ok.answer = rw c.in-Ok.is at c.requires in
    rw c.in-None.is at known
