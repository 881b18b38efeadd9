use Rattle.std.proofs.Common.{◌≡◌, ◌++◌, flat_map, take}
use Rattle.lvl_report.specs.Texts.{step_line}
use Rattle.lvl_report.proofs.why.push_steps.Given as goal

-- the lines of the steps before
abbrev pub invariant-loop-named : goal.invariant-loop-named
invariant-loop-named l = l.text.items ≡ l.fn.text.items ++ flat_map step_line (take l.named-index l.steps)
