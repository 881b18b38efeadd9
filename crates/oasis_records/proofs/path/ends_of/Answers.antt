use Rattle.oasis_records.proofs.Shapes.{extension_code}
use Rattle.oasis_records.specs.Paths.{ends}
use Rattle.oasis_values.proofs.Codes.{seen_code}
use Rattle.oasis_values.proofs.Reading.{reads_err, reads_seen, reads_seen_err, reads_then}
use Rattle.std.proofs.lemmas.Result.{err_from_is_err_and}
use Rattle.oasis_records.proofs.path.ends_of.Goals as goal

pub returns-in_err-start : goal.returns-in_err-start
returns-in_err-start g c =
    let p = err_from_is_err_and c.from_residual.result c.from_residual.ensures.1 in
    let q = rw c.kind_of-first.ensures at c.in_err-start.ensures.reads in
    rw (p.1, p.2) (record { reads = reads_err _ (λ s. seen_code (ends s) (extension_code _)) q })

pub returns-in_err-end : goal.returns-in_err-end
returns-in_err-end g c =
    let p = err_from_is_err_and c.from_residual-in_err-end.result c.from_residual-in_err-end.ensures.1 in
    let q = rw c.kind_of-first.ensures at c.in_ok-start.ensures.reads in
    let r = rw c.kind_of-second.ensures at c.in_err-end.ensures.reads in
    rw (p.1, p.2) (record { reads = reads_then _ q (reads_seen_err _ r) })

pub returns : goal.returns
returns g c =
    let q = rw c.kind_of-first.ensures at c.in_ok-start.ensures.reads in
    let r = rw c.kind_of-second.ensures at c.in_ok-end.ensures.reads in
    record { reads = reads_then _ q (reads_seen _ r) }
