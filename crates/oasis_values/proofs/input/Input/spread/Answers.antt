use Rattle.std.proofs.lemmas.Result.{err_from_is_err_and}
use Rattle.std.proofs.Common.{◌≤◌}
use Rattle.oasis_values.specs.Known.{Known}
use Rattle.oasis_values.specs.Repetitions.{list_size, IsSpreadOf}
use Rattle.oasis_values.specs.Spelling.{Then}
use Rattle.oasis_values.proofs.Reading.{reads_err, reads_then}
use Rattle.oasis_values.proofs.Lists.{some_has}
use Rattle.oasis_values.proofs.Places.{after_list_size_code, spread_of_code}
use Rattle.oasis_values.specs.declared.fault.ValueFault.TheVariants.{ListSize}
use Rattle.oasis_values.proofs.input.Input.spread.Goals as goal

pub spread_of-requires-clause-few : goal.spread_of-requires-clause-few
spread_of-requires-clause-few g c =
    some_has c.list_size.result c.in_ok-count.count (λ n. n ≤ 1048576) c.in_ok-count.ensures.found
    c.list_size.ensures.few

pub returns-in_err-number : goal.returns-in_err-number
returns-in_err-number g c =
    let p = err_from_is_err_and c.from_residual.result c.from_residual.ensures.1 in
    rw (p.1, p.2) (record {
      reads = reads_err
          (λ d. Then (Known (list_size d) ListSize) (IsSpreadOf c.args.spacing c.args.gridded))
          (after_list_size_code c.args.spacing c.args.gridded) c.in_err-number.ensures.reads;
    })

pub returns-in_err-count : goal.returns-in_err-count
returns-in_err-count g c =
    let p = err_from_is_err_and c.from_residual-in_err-count.result c.from_residual-in_err-count.ensures.1 in
    let q = rw c.list_size.ensures.value at c.in_err-count.ensures.reads in
    rw (p.1, p.2) (record {
      reads = reads_then
          (λ d. Then (Known (list_size d) ListSize) (IsSpreadOf c.args.spacing c.args.gridded))
          c.in_ok-number.ensures.reads
          (reads_err (IsSpreadOf c.args.spacing c.args.gridded) (spread_of_code c.args.spacing c.args.gridded) q);
    })

pub returns : goal.returns
returns g c =
    let q = rw c.list_size.ensures.value at c.in_ok-count.ensures.reads in
    record {
      reads = reads_then (λ d. Then (Known (list_size d) ListSize)
          (IsSpreadOf c.args.spacing c.args.gridded)) c.in_ok-number.ensures.reads
          (reads_then (IsSpreadOf c.args.spacing c.args.gridded) q c.spread_of.ensures.reads);
    }
