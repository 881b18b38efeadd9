use Rattle.std.proofs.Common.{◌≡◌, ◌++◌, flat_map, take}
use Rattle.lvl_text.specs.Faults.{spaced}
use Rattle.lvl_text.specs.Gds.{hex}
use Rattle.lvl_text.proofs.gds.push_units.Given as goal

abbrev pub invariant-loop-unit : goal.invariant-loop-unit
invariant-loop-unit l =
    l.text.items ≡ l.fn.text.items ++ flat_map (λ unit. spaced (hex unit)) (take l.unit-index l.units)
