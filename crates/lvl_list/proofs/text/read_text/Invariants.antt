use Rattle.std.proofs.Common.{◌≡◌, ◌≤◌, ◌-◌, length}
use Rattle.std.specs.Io.KnownBytes.{prepend_known}
use Rattle.lvl_io.specs.Known.{Stays}
use Rattle.lvl_list.proofs.text.read_text.Given as goal

-- what was read, and what the reader has left
abbrev pub invariant-loop-n : goal.invariant-loop-n
invariant-loop-n g l = record {
  bytes : Stays (g.R.Read.remaining l.fn.reader) (prepend_known l.text.items (g.R.Read.remaining l.reader));
  within : length l.text.items ≤ l.limit;
  errors : g.R.Read.read_errors l.reader ≡ g.R.Read.read_errors l.fn.reader;
}

abbrev pub decreases-loop-n : goal.decreases-loop-n
decreases-loop-n g l = l.limit - length l.text.items
