use Rattle.std.proofs.Common.{refl, subst, sym, true}
use Rattle.lvl_io.specs.Bytes.{CountsFailure}
use Rattle.lvl_job.proofs.checking.read_entries.Goals as goal

pub returns-in-Err-Read-clause-fault : goal.returns-in-Err-Read-clause-fault
returns-in-Err-Read-clause-fault g c = (
  refl,
  record {
    bytes = g.F.File.Read.remaining c.in-Ok.file;
    errors = g.F.File.Read.read_errors c.read_text.new.reader;
    opened = rw (sym c.as_str.ensures.value) c.in-Ok.ensures.opened;
    reads = subst (λ n. CountsFailure n (g.F.File.Read.read_errors c.read_text.new.reader) true) c.in-Ok.ensures.fresh
        (rw c.in-Err-Read.field-0-is at c.in-Err-Read.ensures.errors);
    holds = λ xs e. tt;
  },
)
