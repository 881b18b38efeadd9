use Rattle.oasis_records.proofs.Codes.{position_code}
use Rattle.oasis_records.specs.Placements.{placement, turn_of}
use Rattle.oasis_records.specs.declared.placement.Transform.TheVariants.{Turned}
use Rattle.oasis_values.proofs.Codes.{seen_code}
use Rattle.oasis_values.proofs.Reading.{reads_err, reads_seen, reads_seen_err, reads_then}
use Rattle.std.proofs.Common.{◌%◌, ◌/◌}
use Rattle.std.proofs.lemmas.Result.{err_from_is_err_and}
use Rattle.oasis_records.proofs.placement.turned_of.Goals as goal

pub returns-in_err-cell : goal.returns-in_err-cell
returns-in_err-cell g c =
    let p = err_from_is_err_and c.from_residual.result c.from_residual.ensures.1 in
    rw (p.1, p.2) (record {
      reads = reads_err _
          (λ d. seen_code (placement c.args.info d (Turned (turn_of (c.args.info / 2 % 4))))
          (position_code (c.args.info / 2))) c.in_err-cell.ensures.reads;
    })

pub returns-in_err-position : goal.returns-in_err-position
returns-in_err-position g c =
    let p = err_from_is_err_and c.from_residual-in_err-position.result c.from_residual-in_err-position.ensures.1 in
    rw (p.1, p.2) (record {
      reads = reads_then _ c.in_ok-cell.ensures.reads
          (reads_seen_err _ c.in_err-position.ensures.reads);
    })

pub returns : goal.returns
returns g c =
    rw (c.has.ensures, c.turn_of.ensures)
    (record { reads = reads_then _ c.in_ok-cell.ensures.reads (reads_seen _ c.in_ok-position.ensures.reads) })
