use Rattle.std.proofs.Common.{◌≡◌, ◌++◌, take}
use Rattle.lvl_list.specs.List.{escaped}
use Rattle.lvl_list.proofs.entry.push_escaped.Given as goal

abbrev pub invariant-loop-byte : goal.invariant-loop-byte
invariant-loop-byte l = l.text.items ≡ l.fn.text.items ++ escaped (take l.byte-index l.name)
