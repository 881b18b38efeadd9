use Rattle.std.proofs.Common.{◌≡◌, map, take, All}
use Rattle.lvl_why.specs.Whys.{IsNamedStep}
use Rattle.lvl_why.proofs.finding.named.Given as goal

-- the steps before have their names
abbrev pub invariant-loop-step : goal.invariant-loop-step
invariant-loop-step l = record {
  same : map (λ n. n.step) l.named.items ≡ take l.step-index l.steps;
  names : All (IsNamedStep l.checked.cells) l.named.items;
}
