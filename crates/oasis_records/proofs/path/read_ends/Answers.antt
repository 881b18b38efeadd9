use Rattle.oasis_records.proofs.Ruling.{reads_go, reads_stop}
use Rattle.oasis_records.proofs.Shapes.{ends_of_code}
use Rattle.oasis_records.specs.Paths.{some_ends}
use Rattle.oasis_values.proofs.Codes.{seen_code}
use Rattle.oasis_values.proofs.Reading.{reads_seen, reads_seen_err}
use Rattle.std.proofs.lemmas.Result.{err_from_is_err_and}
use Rattle.oasis_records.proofs.path.read_ends.Goals as goal

pub returns-in_err-scheme : goal.returns-in_err-scheme
returns-in_err-scheme g c =
    let p = err_from_is_err_and c.from_residual.result c.from_residual.ensures.1 in
    rw (p.1, p.2) (record {
      reads = reads_stop _ _ (λ s. seen_code some_ends (ends_of_code s))
          c.in_err-scheme.ensures.reads;
    })

pub returns-in_err-ends : goal.returns-in_err-ends
returns-in_err-ends g c =
    let p = err_from_is_err_and c.from_residual-in_err-ends.result c.from_residual-in_err-ends.ensures.1 in
    rw (p.1, p.2) (record {
      reads = reads_go _ c.in_ok-scheme.ensures.reads
          (reads_seen_err _ c.in_err-ends.ensures.reads);
    })

pub returns : goal.returns
returns g c = record { reads = reads_go _ c.in_ok-scheme.ensures.reads (reads_seen _ c.in_ok-ends.ensures.reads) }
