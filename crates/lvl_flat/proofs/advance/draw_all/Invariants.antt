use Rattle.std.proofs.Common.{map}
use Rattle.lvl_flat.specs.inside.Walking.{IsWalking, work}
use Rattle.lvl_flat.proofs.advance.draw_all.Given as goal

-- what the top covers of the scope on the Layers is drawn or still to come
abbrev pub invariant-loop-visit : goal.invariant-loop-visit
invariant-loop-visit l =
    IsWalking l.checked (map (λ s. s.layer) l.fn.empty.items) l.scope l.sheets.items l.stack.items

-- fewer steps are left after each
abbrev pub decreases-loop-visit : goal.decreases-loop-visit
decreases-loop-visit l = work l.checked.cells l.stack.items
