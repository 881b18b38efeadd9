use Rattle.std.proofs.Common.{◌≡◌, ◌++◌, flat_map, take}
use Rattle.lvl_report.specs.Texts.{layer_line}
use Rattle.lvl_report.proofs.text.push_layers.Given as goal

abbrev pub invariant-loop-shown : goal.invariant-loop-shown
invariant-loop-shown l = l.text.items ≡ l.fn.text.items ++ flat_map layer_line (take l.shown-index l.layers)
