use Rattle.std.proofs.Common.{arith, sym, ◌∙◌}
use Rattle.std.proofs.lemmas.Int.{ints, to_z-of_z}
use mir.Val.{SFits}
use Rattle.std.specs.Int.{w64}
use Rattle.std.proofs.lemmas.Result.{err_from_is_err_and}
use Rattle.oasis_values.specs.Reals.{with_sign}
use Rattle.oasis_values.proofs.Reading.{reads_seen_as, reads_seen_err, reads_refutes}
use Rattle.oasis_values.proofs.Values.{signed_code}
use Rattle.oasis_values.proofs.input.Input.signed.Goals as goal

pub returns-in_err-number : goal.returns-in_err-number
returns-in_err-number g c =
    let p = err_from_is_err_and c.from_residual.result c.from_residual.ensures.1 in
    let read = reads_seen_err with_sign c.in_err-number.ensures.reads in
    rw (p.1, p.2) (record { reads = read; none = reads_refutes signed_code read })

pub returns : goal.returns
returns g c =
    let fits : SFits w64 c.with_sign.result = omega (arith, ints, c.with_sign.type_inv) in
    let read = reads_seen_as with_sign c.in_ok-number.ensures.reads
    (sym c.with_sign.ensures ∙ sym (to_z-of_z w64 c.with_sign.result fits)) in
    record { reads = read; none = reads_refutes signed_code read }
