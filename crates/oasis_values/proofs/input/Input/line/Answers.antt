use Rattle.std.proofs.lemmas.Result.{err_from_is_err_and}
use Rattle.oasis_values.specs.Known.{Allowed}
use Rattle.oasis_values.specs.Repetitions.{line_size, IsLineOf}
use Rattle.oasis_values.specs.Spelling.{Then}
use Rattle.oasis_values.proofs.Reading.{reads_allowed, reads_err, reads_then}
use Rattle.oasis_values.proofs.Places.{after_line_size_code, line_of_code}
use Rattle.oasis_values.specs.declared.fault.ValueFault.TheVariants.{RepetitionSize}
use Rattle.oasis_values.proofs.input.Input.line.Goals as goal

pub returns-in_err-number : goal.returns-in_err-number
returns-in_err-number g c =
    let p = err_from_is_err_and c.from_residual.result c.from_residual.ensures.1 in
    rw (p.1, p.2) (record {
      reads = reads_err
          (λ d. Then (Allowed (λ limits. line_size limits d) RepetitionSize) (IsLineOf c.args.spacing))
          (after_line_size_code c.args.spacing) c.in_err-number.ensures.reads;
    })

pub returns-in_err-count : goal.returns-in_err-count
returns-in_err-count g c =
    let p = err_from_is_err_and c.from_residual-in_err-count.result c.from_residual-in_err-count.ensures.1 in
    let q = reads_allowed (λ limits. line_size limits c.in_ok-number.number) RepetitionSize
    (rw (c.line_size.ensures.value, c.profile.ensures) at c.in_err-count.ensures.reads) in
    rw (p.1, p.2) (record {
      reads = reads_then
          (λ d. Then (Allowed (λ limits. line_size limits d) RepetitionSize) (IsLineOf c.args.spacing)) c.in_ok-number.ensures.reads
          (reads_err (IsLineOf c.args.spacing) (line_of_code c.args.spacing) q);
    })

pub returns : goal.returns
returns g c =
    let q = reads_allowed (λ limits. line_size limits c.in_ok-number.number) RepetitionSize
    (rw (c.line_size.ensures.value, c.profile.ensures) at c.in_ok-count.ensures.reads) in
    record {
      reads = reads_then (λ d. Then (Allowed (λ limits. line_size limits d) RepetitionSize) (IsLineOf c.args.spacing))
          c.in_ok-number.ensures.reads (reads_then (IsLineOf c.args.spacing) q c.line_of.ensures.reads);
    }
