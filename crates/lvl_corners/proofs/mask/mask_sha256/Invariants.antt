use Rattle.std.proofs.Common.{take}
use Rattle.sha2.specs.Hashers.{Holds256}
use Rattle.lvl_corners.specs.Masks.{mask_lines}
use Rattle.lvl_corners.proofs.mask.mask_sha256.Given as goal

-- the lines so far are hashed
abbrev pub invariant-loop-digested : goal.invariant-loop-digested
invariant-loop-digested l = Holds256 l.hasher (mask_lines (take l.digested-index l.layers))
