use Rattle.lvl_job.proofs.listing.list_file.Goals as goal

pub returns-clause-listed : goal.returns-clause-listed
returns-clause-listed g c = record {
  hash = c.hash_file-hash.result;
  hashed = c.hash_file-hash.ensures;
  written = c.list_one.ensures.written;
  noted = c.list_one.ensures.noted;
  status = c.list_one.ensures.status;
}
