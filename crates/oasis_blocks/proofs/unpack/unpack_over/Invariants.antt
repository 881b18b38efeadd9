use Rattle.std.proofs.Common.{◌≡◌, ◌≤◌, ◌-◌, length, take, Some}
use Rattle.std.specs.Io.KnownBytes.{prepend_known}
use Rattle.lvl_inflate.specs.Inflates.{left_of}
use Rattle.oasis_blocks.proofs.unpack.unpack_over.Given as goal

abbrev pub invariant-pieces : goal.invariant-pieces
invariant-pieces l = record {
  given : left_of Some l.initial.inflate ≡ prepend_known (take l.at l.bytes) (left_of Some l.inflate);
  within : l.at ≤ length l.bytes;
  same : length l.bytes ≡ length l.initial.bytes;
}

abbrev pub decreases-pieces : goal.decreases-pieces
decreases-pieces l = length l.bytes - l.at
