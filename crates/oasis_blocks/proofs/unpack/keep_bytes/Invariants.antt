use Rattle.std.proofs.Common.{◌≡◌, length, Some, ◌+◌}
use Rattle.std.specs.Io.KnownBytes.{prepend_known}
use Rattle.lvl_inflate.specs.Inflates.{left_of}
use Rattle.oasis_blocks.proofs.unpack.keep_bytes.Given as goal

abbrev pub invariant-pieces : goal.invariant-pieces
invariant-pieces l = record {
  given : left_of Some l.initial.inflate ≡ prepend_known l.bytes.items (left_of Some l.inflate);
  counted : length l.bytes.items + l.left ≡ l.count;
}

abbrev pub decreases-pieces : goal.decreases-pieces
decreases-pieces l = l.left
