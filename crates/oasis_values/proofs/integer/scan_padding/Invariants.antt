use Rattle.std.proofs.Common.{◌≡◌, ◌≤◌, ◌<◌, take}
use Rattle.oasis_values.specs.Numbers.{Continues, groups}
use Rattle.oasis_values.proofs.integer.scan_padding.Given as goal

abbrev pub invariant-loop-at : goal.invariant-loop-at
invariant-loop-at l =
    (10 ≤ l.at) × (l.at < 256) × Continues (take l.at l.bytes) × (l.value ≡ groups (take l.at l.bytes))
