use Rattle.std.proofs.Common.{◌≡◌, ◌++◌, map, take, ℕ}
use Rattle.std.specs.declared.alloc.Global.{Global}
use Rattle.std.specs.declared.vec.Vec.{Vec}
use Rattle.lvl_cells.specs.inside.Rounding.{visited_name}
use Rattle.lvl_cells.proofs.round.add_names.Given as goal

-- the names of the visits so far are added
abbrev pub invariant-loop-visit : goal.invariant-loop-visit
invariant-loop-visit l =
    map (λ (n : Vec ℕ Global). n.items) l.names.items
    ≡ map (λ (n : Vec ℕ Global). n.items) l.fn.names.items
    ++ map (visited_name l.cells) (take l.visit-index l.visits)
