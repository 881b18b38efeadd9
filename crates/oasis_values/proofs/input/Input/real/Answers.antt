use Rattle.std.proofs.lemmas.Result.{err_from_is_err_and}
use Rattle.oasis_values.specs.Known.{Known, among}
use Rattle.oasis_values.specs.Reals.{real_types, IsRealOf}
use Rattle.oasis_values.specs.Spelling.{Then}
use Rattle.oasis_values.proofs.Reading.{reads_err, reads_then, reads_refutes}
use Rattle.oasis_values.proofs.Values.{after_type_code, real_of_code, real_code}
use Rattle.oasis_values.specs.declared.fault.ValueFault.TheVariants.{RealType as unknown_type}
use Rattle.oasis_values.proofs.input.Input.real.Goals as goal

pub returns-in_err-number : goal.returns-in_err-number
returns-in_err-number g c =
    let p = err_from_is_err_and c.from_residual.result c.from_residual.ensures.1 in
    let read = reads_err (λ n. Then (Known (among 0 real_types n) unknown_type) IsRealOf) after_type_code
    c.in_err-number.ensures.reads in
    rw (p.1, p.2) (record { reads = read; none = reads_refutes real_code read })

pub returns-in_err-kind : goal.returns-in_err-kind
returns-in_err-kind g c =
    let p = err_from_is_err_and c.from_residual-in_err-kind.result c.from_residual-in_err-kind.ensures.1 in
    let q = rw c.real_type.ensures at c.in_err-kind.ensures.reads in
    let read = reads_then (λ n. Then (Known (among 0 real_types n) unknown_type) IsRealOf)
    c.in_ok-number.ensures.reads (reads_err IsRealOf real_of_code q) in
    rw (p.1, p.2) (record { reads = read; none = reads_refutes real_code read })

pub returns : goal.returns
returns g c =
    let q = rw c.real_type.ensures at c.in_ok-kind.ensures.reads in
    let read = reads_then (λ n. Then (Known (among 0 real_types n) unknown_type) IsRealOf)
    c.in_ok-number.ensures.reads (reads_then IsRealOf q c.real_of.ensures.reads) in
    record { reads = read; none = reads_refutes real_code read }
