use Rattle.std.proofs.Common.{◌≡◌, map, take}
use Rattle.std.specs.List.{filter}
use Rattle.lvl_count.specs.Listed.{is_top}
use Rattle.lvl_count.proofs.listed.top_names.Given as goal

-- the names are those of the cells so far to which no cell refers
abbrev pub invariant-loop-cell : goal.invariant-loop-cell
invariant-loop-cell l = l.names.items ≡ map (λ c. c.name) (filter (is_top l.cells) (take l.cell-index l.cells))
