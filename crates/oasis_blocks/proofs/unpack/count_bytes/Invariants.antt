use Rattle.std.proofs.Common.{◌≡◌, ℕ, List, length, Some, ◌+◌}
use Rattle.std.specs.Io.KnownBytes.{prepend_known}
use Rattle.lvl_inflate.specs.Inflates.{left_of}
use Rattle.oasis_blocks.proofs.unpack.count_bytes.Given as goal

abbrev pub invariant-pieces : goal.invariant-pieces
invariant-pieces l =
    (given : List ℕ)
    × (left_of Some l.initial.inflate ≡ prepend_known given (left_of Some l.inflate))
    × (length given + l.left ≡ l.count)

abbrev pub decreases-pieces : goal.decreases-pieces
decreases-pieces l = l.left
