use Rattle.std.proofs.Common.{◌≡◌, ◌<◌, false, List, ℕ, Some}
use Rattle.lvl_grammar.specs.inside.ReadTo.{ReadTo}
use Rattle.oasis_values.specs.Input.{has_failed, input_profile, bytes_left, input_offset, input_reader}
use Rattle.oasis_stream.specs.Items.{Item}
use Rattle.oasis_stream.specs.Front.{oasis}
use Rattle.oasis_library.specs.inside.Holds.{HasRead, HasBegun}
use Rattle.oasis_library.proofs.read.read_records.Given as goal

-- the bytes so far are a front of a file, whose items were taken, at least one byte each
abbrev pub invariant-loop : goal.invariant-loop
invariant-loop g l = record {
  live : has_failed l.input ≡ false;
  items : List Item;
  holds : HasRead (input_profile l.fn.input) l.reading items;
  read_to : (xs : List ℕ) → bytes_left g.R.Read.remaining l.fn.input ≡ Some xs
      → ReadTo (oasis (input_profile l.fn.input)) xs (input_offset l.input)
      (HasBegun (input_profile l.fn.input) l.reading) (bytes_left g.R.Read.remaining l.input);
  one_each : (xs : List ℕ) → bytes_left g.R.Read.remaining l.fn.input ≡ Some xs → l.counter < input_offset l.input;
  errors : g.R.Read.read_errors (input_reader l.input) ≡ g.R.Read.read_errors (input_reader l.fn.input);
  lent : g.R.Read.lent (input_reader l.input) ≡ g.R.Read.lent (input_reader l.fn.input);
  profile : input_profile l.input ≡ input_profile l.fn.input;
}
