use Rattle.std.proofs.Common.{◌≡◌, ◌≤◌, ◌^◌, take}
use Rattle.oasis_values.specs.Numbers.{Continues, groups}
use Rattle.oasis_values.proofs.integer.scan_integer.Given as goal

abbrev pub invariant-loop-at : goal.invariant-loop-at
invariant-loop-at l = record {
  few : l.at ≤ 9;
  continues : Continues (take l.at l.bytes);
  value : l.value ≡ groups (take l.at l.bytes);
  unit : l.unit ≡ 128 ^ l.at;
}
