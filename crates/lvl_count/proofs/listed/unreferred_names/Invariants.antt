use Rattle.std.proofs.Common.{◌≡◌, map, take}
use Rattle.std.specs.List.{filter}
use Rattle.lvl_count.specs.Listed.{is_top}
use Rattle.lvl_count.proofs.listed.unreferred_names.Given as goal

-- the names are those of the cells so far to which no cell refers
abbrev pub invariant-loop-k : goal.invariant-loop-k
invariant-loop-k l = l.names.items ≡ map (λ c. c.name) (filter (is_top l.cells) (take l.k l.cells))
