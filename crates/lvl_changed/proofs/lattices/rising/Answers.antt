use Rattle.std.proofs.Common.{ap, ◌∙◌}
use Rattle.lvl_changed.specs.inside.Rows.{scaled}
use Rattle.lvl_changed.proofs.Rebasing.{line_back, line_same}
use Rattle.lvl_changed.proofs.lattices.rising.Goals as goal

pub returns-then-step-gt0 : goal.returns-then-step-gt0
returns-then-step-gt0 c = line_same c.args.step c.args.count

pub returns : goal.returns
returns c =
    line_back c.args.step c.in_ok-last.last c.in_ok-opposite.field-0 c.args.count
    (c.in_ok-last.ensures ∙ ap (scaled c.args.step) c.in_ok-checked_sub.ensures.1) c.in_ok-opposite.ensures
