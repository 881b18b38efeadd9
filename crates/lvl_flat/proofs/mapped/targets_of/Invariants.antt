use Rattle.std.proofs.Common.{◌≡◌, map, take}
use Rattle.lvl_view.specs.Views.{target_of}
use Rattle.lvl_flat.proofs.mapped.targets_of.Given as goal

-- the targets of the sheets so far
abbrev pub invariant-loop-sheet : goal.invariant-loop-sheet
invariant-loop-sheet l = l.targets.items ≡ map (λ s. target_of l.view.pairs s.layer) (take l.sheet-index l.sheets)
