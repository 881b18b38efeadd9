use Rattle.std.proofs.Common.{sym}
use Rattle.lvl_job.proofs.checking.check_file.Goals as goal

pub returns-clause-checked : goal.returns-clause-checked
returns-clause-checked g c = record {
  hash = c.hash_file-hash.result;
  hashed = rw (sym c.as_str.ensures.value) c.hash_file-hash.ensures;
  written = c.check_one.ensures.written;
  status = c.check_one.ensures.status;
}
