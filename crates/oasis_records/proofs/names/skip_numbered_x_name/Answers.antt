use Rattle.std.proofs.lemmas.Result.{err_from_is_err_and}
use Rattle.oasis_values.specs.declared.text.Text.TheVariants.{B}
use Rattle.oasis_values.proofs.Reading.{reads_err, reads_then}
use Rattle.oasis_records.proofs.Ignored.{numbered_string_code}
use Rattle.oasis_records.proofs.names.skip_numbered_x_name.Goals as goal

pub returns-in_err-_attribute : goal.returns-in_err-_attribute
returns-in_err-_attribute g c =
    let p = err_from_is_err_and c.from_residual.result c.from_residual.ensures.1 in
    rw (p.1, p.2) (record { reads = reads_err _ (λ _. numbered_string_code B) c.in_err-_attribute.ensures.reads })

pub returns : goal.returns
returns g c = record { reads = reads_then _ c.in_ok-_attribute.ensures.reads c.skip_numbered_string.ensures.reads }
