use Rattle.std.proofs.lemmas.Result.{err_from_is_err_and}
use Rattle.oasis_values.proofs.Reading.{reads_seen, reads_seen_err}
use Rattle.oasis_values.proofs.input.Input.skip_value_of.Goals as goal

pub returns-in_err-_real-in-Real : goal.returns-in_err-_real-in-Real
returns-in_err-_real-in-Real g c =
    let p = err_from_is_err_and c.from_residual.result c.from_residual.ensures.1 in
    rw (p.1, p.2, c.in-Real.is)
    (record { reads = reads_seen_err (λ _. tt) c.in_err-_real-in-Real.ensures.reads })

pub returns-in_ok-_real-in-Real : goal.returns-in_ok-_real-in-Real
returns-in_ok-_real-in-Real g c =
    rw c.in-Real.is (record { reads = reads_seen (λ _. tt) c.in_ok-_real-in-Real.ensures.reads })

pub returns-in_err-_number-in-Unsigned : goal.returns-in_err-_number-in-Unsigned
returns-in_err-_number-in-Unsigned g c =
    let p = err_from_is_err_and c.from_residual-in_err-_number-in-Unsigned.result
    c.from_residual-in_err-_number-in-Unsigned.ensures.1 in
    rw (p.1, p.2, c.in-Unsigned.is)
    (record { reads = reads_seen_err (λ _. tt) c.in_err-_number-in-Unsigned.ensures.reads })

pub returns-in_ok-_number-in-Unsigned : goal.returns-in_ok-_number-in-Unsigned
returns-in_ok-_number-in-Unsigned g c =
    rw c.in-Unsigned.is (record { reads = reads_seen (λ _. tt) c.in_ok-_number-in-Unsigned.ensures.reads })

pub returns-in_err-_number-in-Signed : goal.returns-in_err-_number-in-Signed
returns-in_err-_number-in-Signed g c =
    let p = err_from_is_err_and c.from_residual-in_err-_number-in-Signed.result
    c.from_residual-in_err-_number-in-Signed.ensures.1 in
    rw (p.1, p.2, c.in-Signed.is)
    (record { reads = reads_seen_err (λ _. tt) c.in_err-_number-in-Signed.ensures.reads })

pub returns-in_ok-_number-in-Signed : goal.returns-in_ok-_number-in-Signed
returns-in_ok-_number-in-Signed g c =
    rw c.in-Signed.is (record { reads = reads_seen (λ _. tt) c.in_ok-_number-in-Signed.ensures.reads })

pub returns-in_err-_number-in-Reference : goal.returns-in_err-_number-in-Reference
returns-in_err-_number-in-Reference g c =
    let p = err_from_is_err_and c.from_residual-in_err-_number-in-Reference.result
    c.from_residual-in_err-_number-in-Reference.ensures.1 in
    rw (p.1, p.2, c.in-Reference.is)
    (record { reads = reads_seen_err (λ _. tt) c.in_err-_number-in-Reference.ensures.reads })

pub returns-in_ok-_number-in-Reference : goal.returns-in_ok-_number-in-Reference
returns-in_ok-_number-in-Reference g c =
    rw c.in-Reference.is (record { reads = reads_seen (λ _. tt) c.in_ok-_number-in-Reference.ensures.reads })

pub returns-in-String : goal.returns-in-String
returns-in-String g c = rw c.in-String.is (record { reads = c.skip_string.ensures.reads })
