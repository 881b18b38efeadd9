use Rattle.std.proofs.lemmas.Result.{err_from_is_err_and}
use Rattle.oasis_values.specs.Known.{Allowed}
use Rattle.oasis_values.specs.Numbers.{IsUnsigned}
use Rattle.oasis_values.specs.Repetitions.{matrix_size, IsMatrixOf}
use Rattle.oasis_values.specs.Spelling.{Then}
use Rattle.oasis_values.proofs.Reading.{reads_allowed, reads_err, reads_then}
use Rattle.oasis_values.proofs.Places.{after_columns_code, after_rows_code, matrix_of_code}
use Rattle.oasis_values.specs.declared.fault.ValueFault.TheVariants.{RepetitionSize}
use Rattle.oasis_values.proofs.input.Input.matrix.Goals as goal

pub returns-in_err-columns : goal.returns-in_err-columns
returns-in_err-columns g c =
    let p = err_from_is_err_and c.from_residual.result c.from_residual.ensures.1 in
    rw (p.1, p.2) (record {
      reads = reads_err
          (λ d. Then IsUnsigned
          (λ e. Then (Allowed (λ limits. matrix_size limits d e) RepetitionSize) (IsMatrixOf c.args.first c.args.second)))
          (after_columns_code c.args.first c.args.second) c.in_err-columns.ensures.reads;
    })

pub returns-in_err-rows : goal.returns-in_err-rows
returns-in_err-rows g c =
    let p = err_from_is_err_and c.from_residual-in_err-rows.result c.from_residual-in_err-rows.ensures.1 in
    rw (p.1, p.2) (record {
      reads = reads_then
          (λ d. Then IsUnsigned
          (λ e. Then (Allowed (λ limits. matrix_size limits d e) RepetitionSize) (IsMatrixOf c.args.first c.args.second)))
          c.in_ok-columns.ensures.reads
          (reads_err
          (λ e. Then (Allowed (λ limits. matrix_size limits c.in_ok-columns.columns e) RepetitionSize)
          (IsMatrixOf c.args.first c.args.second)) (after_rows_code c.args.first c.args.second c.in_ok-columns.columns)
          c.in_err-rows.ensures.reads);
    })

pub returns-in_err-size : goal.returns-in_err-size
returns-in_err-size g c =
    let p = err_from_is_err_and c.from_residual-in_err-size.result c.from_residual-in_err-size.ensures.1 in
    let q = reads_allowed (λ limits. matrix_size limits c.in_ok-columns.columns c.in_ok-rows.rows) RepetitionSize
    (rw (c.matrix_size-size.ensures.value, c.profile.ensures) at c.in_err-size.ensures.reads) in
    rw (p.1, p.2) (record {
      reads = reads_then
          (λ d. Then IsUnsigned
          (λ e. Then (Allowed (λ limits. matrix_size limits d e) RepetitionSize) (IsMatrixOf c.args.first c.args.second)))
          c.in_ok-columns.ensures.reads
          (reads_then
          (λ e. Then (Allowed (λ limits. matrix_size limits c.in_ok-columns.columns e) RepetitionSize)
          (IsMatrixOf c.args.first c.args.second)) c.in_ok-rows.ensures.reads
          (reads_err (IsMatrixOf c.args.first c.args.second) (matrix_of_code c.args.first c.args.second) q));
    })

pub returns : goal.returns
returns g c =
    let q = reads_allowed (λ limits. matrix_size limits c.in_ok-columns.columns c.in_ok-rows.rows) RepetitionSize
    (rw (c.matrix_size-size.ensures.value, c.profile.ensures) at c.in_ok-size.ensures.reads) in
    record {
      reads = reads_then (λ d. Then IsUnsigned
          (λ e. Then (Allowed (λ limits. matrix_size limits d e) RepetitionSize) (IsMatrixOf c.args.first c.args.second)))
          c.in_ok-columns.ensures.reads
          (reads_then
          (λ e. Then (Allowed (λ limits. matrix_size limits c.in_ok-columns.columns e) RepetitionSize)
          (IsMatrixOf c.args.first c.args.second)) c.in_ok-rows.ensures.reads
          (reads_then (IsMatrixOf c.args.first c.args.second) q c.matrix_of.ensures.reads));
    }
