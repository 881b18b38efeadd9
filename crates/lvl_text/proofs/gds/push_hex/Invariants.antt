use Rattle.std.proofs.Common.{◌≡◌, ◌++◌, take}
use Rattle.lvl_text.specs.Gds.{hex}
use Rattle.lvl_text.proofs.gds.push_hex.Given as goal

abbrev pub invariant-loop-byte : goal.invariant-loop-byte
invariant-loop-byte l = l.text.items ≡ l.fn.text.items ++ hex (take l.byte-index l.bytes)
