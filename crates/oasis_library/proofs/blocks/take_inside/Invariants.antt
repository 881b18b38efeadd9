use Rattle.std.proofs.Common.{◌≡◌, ◌-◌, ◌++◌, false, length, List, ℕ, Some}
use Rattle.lvl_grammar.specs.inside.ReadTo.{ReadTo}
use Rattle.oasis_values.specs.Input.{has_failed, input_profile, bytes_left, input_offset}
use Rattle.oasis_records.specs.declared.record.Record.{Record}
use Rattle.oasis_stream.specs.Blocks.{inside}
use Rattle.oasis_library.specs.inside.Holds.{Holds}
use Rattle.oasis_library.proofs.blocks.take_inside.Given as goal

-- the bytes so far are a front of the block, whose records were taken
abbrev pub invariant-records : goal.invariant-records
invariant-records l = record {
  live : has_failed l.input ≡ false;
  profile : input_profile l.input ≡ input_profile l.fn.input;
  to : (rs : List Record) (ys : List ℕ) → Holds l.fn.reading rs → bytes_left Some l.fn.input ≡ Some ys
      → ReadTo (inside (input_profile l.fn.input) rs (length ys)) ys (input_offset l.input)
      (λ more. Holds l.reading (rs ++ more)) (bytes_left Some l.input);
  room : l.reading.room ≡ l.fn.reading.room;
}

abbrev pub decreases-records : goal.decreases-records
decreases-records l = l.count - input_offset l.input
