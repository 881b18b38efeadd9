use Rattle.std.proofs.Common.{◌≡◌, ◌-◌, ◌≤◌}
use Rattle.std.specs.Io.KnownBytes.{prepend_known}
use Rattle.gds_records.proofs.Skipped.{Takes}
use Rattle.gds_records.proofs.zeros.skip_zeros.Given as goal

abbrev pub invariant-zeros : goal.invariant-zeros
invariant-zeros g l = record {
  zeros : Takes l.taken (prepend_known l.initial.ahead (g.R.Read.remaining l.initial.reader))
      (prepend_known l.ahead (g.R.Read.remaining l.reader));
  within : l.taken ≤ l.room;
  errors : g.R.Read.read_errors l.reader ≡ g.R.Read.read_errors l.initial.reader;
  lent : g.R.Read.lent l.reader ≡ g.R.Read.lent l.initial.reader;
}

abbrev pub decreases-zeros : goal.decreases-zeros
decreases-zeros g l = l.room - l.taken
