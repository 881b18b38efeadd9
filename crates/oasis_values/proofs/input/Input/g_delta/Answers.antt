use Rattle.std.proofs.Common.{◌≡◌, ◌/◌, ◌%◌, ◌==◌, false, sym, arith}
use Rattle.std.proofs.lemmas.Bool.Decides.{nat_tests}
use Rattle.std.proofs.lemmas.Result.{err_from_is_err_and}
use Rattle.oasis_values.specs.Deltas.{free, IsRestOfGDelta}
use Rattle.oasis_values.proofs.Reading.{reads_err, reads_then, reads_case, reads_seen_as, reads_seen_err, reads_refutes}
use Rattle.oasis_values.proofs.Values.{rest_of_g_delta_code, g_delta_code}
use Rattle.oasis_values.proofs.input.Input.g_delta.Goals as goal

pub returns-in_err-number : goal.returns-in_err-number
returns-in_err-number g c =
    let p = err_from_is_err_and c.from_residual.result c.from_residual.ensures.1 in
    let read = reads_err (λ n. IsRestOfGDelta (n % 2 == 0) n) (λ n. rest_of_g_delta_code (n % 2 == 0) n)
    c.in_err-number.ensures.reads in
    rw (p.1, p.2) (record { reads = read; none = reads_refutes g_delta_code read })

pub returns-in_err-up : goal.returns-in_err-up
returns-in_err-up g c =
    let p = err_from_is_err_and c.from_residual-in_err-up.result c.from_residual-in_err-up.ensures.1 in
    let n = c.in_ok-number.number in
    let odd : (n % 2 == 0) ≡ false = grind (arith, nat_tests, c.if-number-eq0.false) in
    let read = reads_then (λ m. IsRestOfGDelta (m % 2 == 0) m) c.in_ok-number.ensures.reads
    (reads_case (λ b. IsRestOfGDelta b n) (n % 2 == 0) false odd
    (reads_seen_err (free (n / 2)) c.in_err-up.ensures.reads)) in
    rw (p.1, p.2) (record { reads = read; none = reads_refutes g_delta_code read })

pub returns : goal.returns
returns g c =
    let n = c.in_ok-number.number in
    let odd : (n % 2 == 0) ≡ false = grind (arith, nat_tests, c.if-number-eq0.false) in
    let read = reads_then (λ m. IsRestOfGDelta (m % 2 == 0) m) c.in_ok-number.ensures.reads
    (reads_case (λ b. IsRestOfGDelta b n) (n % 2 == 0) false odd
    (reads_seen_as (free (n / 2)) c.in_ok-up.ensures.reads (sym c.free.ensures))) in
    record { reads = read; none = reads_refutes g_delta_code read }
