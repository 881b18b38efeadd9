use Rattle.std.proofs.Common.{map}
use Rattle.lvl_flat.specs.declared.scope.Scope.TheVariants.{Within}
use Rattle.lvl_flat.specs.inside.Walking.{IsWalking, work}
use Rattle.lvl_flat.proofs.selected.draw_candidates.Given as goal

-- what the top covers of the window on the Layers is drawn or still to come
abbrev pub invariant-loop-visit : goal.invariant-loop-visit
invariant-loop-visit l =
    IsWalking l.checked (map (λ s. s.layer) l.fn.empty.items) (Within l.window) l.sheets.items l.stack.items

-- fewer steps are left after each
abbrev pub decreases-loop-visit : goal.decreases-loop-visit
decreases-loop-visit l = work l.checked.cells l.stack.items
