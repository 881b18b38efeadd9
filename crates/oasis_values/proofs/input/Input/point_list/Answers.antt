use Rattle.std.proofs.lemmas.Result.{err_from_is_err_and}
use Rattle.oasis_values.specs.Known.{Known, among}
use Rattle.oasis_values.specs.PointLists.{list_types, IsListOf}
use Rattle.oasis_values.specs.Spelling.{Then}
use Rattle.oasis_values.proofs.Reading.{reads_err, reads_then, reads_refutes}
use Rattle.oasis_values.proofs.Lists.{after_list_type_code, list_of_code, point_list_code}
use Rattle.oasis_values.specs.declared.fault.ValueFault.TheVariants.{PointListType}
use Rattle.oasis_values.proofs.input.Input.point_list.Goals as goal

pub returns-in_err-number : goal.returns-in_err-number
returns-in_err-number g c =
    let p = err_from_is_err_and c.from_residual.result c.from_residual.ensures.1 in
    let read = reads_err (λ n. Then (Known (among 0 list_types n) PointListType) (IsListOf c.args.purpose))
    (after_list_type_code c.args.purpose) c.in_err-number.ensures.reads in
    rw (p.1, p.2) (record { reads = read; none = reads_refutes (point_list_code c.args.purpose) read })

pub returns-in_err-kind : goal.returns-in_err-kind
returns-in_err-kind g c =
    let p = err_from_is_err_and c.from_residual-in_err-kind.result c.from_residual-in_err-kind.ensures.1 in
    let q = rw c.list_type.ensures at c.in_err-kind.ensures.reads in
    let read = reads_then (λ n. Then (Known (among 0 list_types n) PointListType) (IsListOf c.args.purpose))
    c.in_ok-number.ensures.reads (reads_err (IsListOf c.args.purpose) (list_of_code c.args.purpose) q) in
    rw (p.1, p.2) (record { reads = read; none = reads_refutes (point_list_code c.args.purpose) read })

pub returns : goal.returns
returns g c =
    let q = rw c.list_type.ensures at c.in_ok-kind.ensures.reads in
    let read = reads_then (λ n. Then (Known (among 0 list_types n) PointListType) (IsListOf c.args.purpose))
    c.in_ok-number.ensures.reads (reads_then (IsListOf c.args.purpose) q c.list_of.ensures.reads) in
    record { reads = read; none = reads_refutes (point_list_code c.args.purpose) read }
