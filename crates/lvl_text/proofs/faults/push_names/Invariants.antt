use Rattle.std.proofs.Common.{◌≡◌, ◌++◌, flat_map, take}
use Rattle.lvl_text.specs.Faults.{spaced}
use Rattle.lvl_text.proofs.faults.push_names.Given as goal

abbrev pub invariant-loop-name : goal.invariant-loop-name
invariant-loop-name l =
    l.text.items ≡ l.fn.text.items ++ flat_map (λ name. spaced name.items) (take l.name-index l.names)
