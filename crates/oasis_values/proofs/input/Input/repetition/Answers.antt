use Rattle.std.proofs.lemmas.Result.{err_from_is_err_and}
use Rattle.oasis_values.specs.Known.{Known, among}
use Rattle.oasis_values.specs.Repetitions.{kinds, IsKind}
use Rattle.oasis_values.specs.Spelling.{Then}
use Rattle.oasis_values.proofs.Reading.{reads_err, reads_then, reads_case, reads_refutes}
use Rattle.oasis_values.proofs.Places.{after_kind_code, kind_code, repetition_code}
use Rattle.oasis_values.specs.declared.fault.ValueFault.TheVariants.{RepetitionType}
use Rattle.oasis_values.specs.declared.repetition.Kind.TheVariants.{Modal, Matrix, Line, List as Listed}
use Rattle.oasis_values.proofs.input.Input.repetition.Goals as goal

pub returns-in_err-number : goal.returns-in_err-number
returns-in_err-number g c =
    let p = err_from_is_err_and c.from_residual.result c.from_residual.ensures.1 in
    let read = reads_err (λ n. Then (Known (among 0 kinds n) RepetitionType) (IsKind c.args.has_modal))
    (after_kind_code c.args.has_modal) c.in_err-number.ensures.reads in
    rw (p.1, p.2) (record { reads = read; none = reads_refutes (repetition_code c.args.has_modal) read })

pub returns-in_err-kind : goal.returns-in_err-kind
returns-in_err-kind g c =
    let p = err_from_is_err_and c.from_residual-in_err-kind.result c.from_residual-in_err-kind.ensures.1 in
    let q = rw c.kind_of.ensures at c.in_err-kind.ensures.reads in
    let read = reads_then (λ n. Then (Known (among 0 kinds n) RepetitionType) (IsKind c.args.has_modal))
    c.in_ok-number.ensures.reads (reads_err (IsKind c.args.has_modal) (kind_code c.args.has_modal) q) in
    rw (p.1, p.2) (record { reads = read; none = reads_refutes (repetition_code c.args.has_modal) read })

pub returns-in-Modal : goal.returns-in-Modal
returns-in-Modal g c =
    let q = rw c.kind_of.ensures at c.in_ok-kind.ensures.reads in
    let read = reads_then (λ n. Then (Known (among 0 kinds n) RepetitionType) (IsKind c.args.has_modal))
    c.in_ok-number.ensures.reads
    (reads_then (IsKind c.args.has_modal) q
    (reads_case (IsKind c.args.has_modal) c.in_ok-kind.kind Modal c.in-Modal.is c.modal.ensures.reads)) in
    record { reads = read; none = reads_refutes (repetition_code c.args.has_modal) read }

pub returns-in-Matrix : goal.returns-in-Matrix
returns-in-Matrix g c =
    let q = rw c.kind_of.ensures at c.in_ok-kind.ensures.reads in
    let read = reads_then (λ n. Then (Known (among 0 kinds n) RepetitionType) (IsKind c.args.has_modal))
    c.in_ok-number.ensures.reads
    (reads_then (IsKind c.args.has_modal) q
    (reads_case (IsKind c.args.has_modal) c.in_ok-kind.kind (Matrix c.in-Matrix.first c.in-Matrix.second)
    c.in-Matrix.is c.matrix.ensures.reads)) in
    record { reads = read; none = reads_refutes (repetition_code c.args.has_modal) read }

pub returns-in-Line : goal.returns-in-Line
returns-in-Line g c =
    let q = rw c.kind_of.ensures at c.in_ok-kind.ensures.reads in
    let read = reads_then (λ n. Then (Known (among 0 kinds n) RepetitionType) (IsKind c.args.has_modal))
    c.in_ok-number.ensures.reads
    (reads_then (IsKind c.args.has_modal) q
    (reads_case (IsKind c.args.has_modal) c.in_ok-kind.kind (Line c.in-Line.spacing) c.in-Line.is
    c.line.ensures.reads)) in
    record { reads = read; none = reads_refutes (repetition_code c.args.has_modal) read }

pub returns-in-List : goal.returns-in-List
returns-in-List g c =
    let q = rw c.kind_of.ensures at c.in_ok-kind.ensures.reads in
    let read = reads_then (λ n. Then (Known (among 0 kinds n) RepetitionType) (IsKind c.args.has_modal))
    c.in_ok-number.ensures.reads
    (reads_then (IsKind c.args.has_modal) q
    (reads_case (IsKind c.args.has_modal) c.in_ok-kind.kind (Listed c.in-List.spacing c.in-List.gridded)
    c.in-List.is c.spread.ensures.reads)) in
    record { reads = read; none = reads_refutes (repetition_code c.args.has_modal) read }
