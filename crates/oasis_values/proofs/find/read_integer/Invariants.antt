use Rattle.std.proofs.Common.{◌≡◌, ◌-◌, length, min}
use Rattle.std.specs.Io.KnownBytes.{prepend_known}
use Rattle.lvl_io.specs.Known.{Stays}
use Rattle.oasis_values.proofs.find.read_integer.Given as goal

abbrev pub invariant-integer : goal.invariant-integer
invariant-integer g l = record {
  stays : Stays (prepend_known l.initial.ahead (g.R.Read.remaining l.initial.reader))
      (prepend_known l.ahead (g.R.Read.remaining l.reader));
  errors : g.R.Read.read_errors l.reader ≡ g.R.Read.read_errors l.initial.reader;
  lent : g.R.Read.lent l.reader ≡ g.R.Read.lent l.initial.reader;
}

abbrev pub decreases-integer : goal.decreases-integer
decreases-integer g l = 256 - min (length l.ahead) l.room
