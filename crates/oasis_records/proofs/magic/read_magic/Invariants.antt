use Rattle.std.proofs.Common.{◌≡◌, ◌<◌, false, drop, Result}
use Rattle.lvl_refusal.specs.declared.Cause.{Cause}
use Rattle.oasis_values.specs.Input.{has_failed}
use Rattle.oasis_values.specs.Reads.{Reads}
use Rattle.oasis_values.specs.declared.fault.ValueFault.{ValueFault}
use Rattle.oasis_values.specs.declared.input.Input.{Input}
use Rattle.oasis_records.specs.Magic.{magic, AreMagicBytes}
use Rattle.oasis_records.specs.declared.fault.RecordRule.{RecordRule}
use Rattle.oasis_records.proofs.magic.read_magic.Given as goal

-- whatever reads the rest reads the whole
abbrev pub invariant-loop-n : goal.invariant-loop-n
invariant-loop-n g l = record {
  live : 0 < l.n → has_failed l.input ≡ false;
  goes : (new : Input g.row.R.Denot) (r : Result (Result (Unit {0}) RecordRule) (Cause ValueFault))
      → Reads g.R.Read.remaining g.R.Read.read_errors g.R.Read.lent (AreMagicBytes (drop l.n magic)) l.input new r
      → Reads g.R.Read.remaining g.R.Read.read_errors g.R.Read.lent (AreMagicBytes magic) l.initial.input new r;
}
