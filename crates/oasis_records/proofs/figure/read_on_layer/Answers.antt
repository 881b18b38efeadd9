use Rattle.std.proofs.lemmas.Result.{err_from_is_err_and}
use Rattle.oasis_values.proofs.Codes.{seen_code}
use Rattle.oasis_values.proofs.Integers.{unsigned_code}
use Rattle.oasis_values.proofs.Reading.{reads_err, reads_then, reads_seen, reads_seen_err}
use Rattle.oasis_records.proofs.Codes.{if_code}
use Rattle.oasis_records.specs.Fields.{on_layer}
use Rattle.oasis_records.proofs.figure.read_on_layer.Goals as goal

pub returns-in_err-layer : goal.returns-in_err-layer
returns-in_err-layer g c =
    let p = err_from_is_err_and c.from_residual.result c.from_residual.ensures.1 in
    rw (p.1, p.2) (record {
      reads = reads_err _ (λ l. seen_code (on_layer l) (if_code _ unsigned_code))
          c.in_err-layer.ensures.reads;
    })

pub returns-in_err-datatype : goal.returns-in_err-datatype
returns-in_err-datatype g c =
    let p = err_from_is_err_and c.from_residual-in_err-datatype.result c.from_residual-in_err-datatype.ensures.1 in
    rw (p.1, p.2) (record {
      reads = reads_then _ c.in_ok-layer.ensures.reads
          (reads_seen_err _ c.in_err-datatype.ensures.reads);
    })

pub returns : goal.returns
returns g c = record { reads = reads_then _ c.in_ok-layer.ensures.reads (reads_seen _ c.in_ok-datatype.ensures.reads) }
