use Rattle.lvl_report.proofs.steps.steps_line.Goals as goal

pub difference_line-requires : goal.difference_line-requires
difference_line-requires c = c.agree_in_steps.ensures.differ c.if-agree_in_steps.false
