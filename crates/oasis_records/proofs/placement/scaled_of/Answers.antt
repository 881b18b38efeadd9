use Rattle.oasis_records.proofs.Codes.{if_code, position_code}
use Rattle.oasis_records.specs.Placements.{placement}
use Rattle.oasis_records.specs.declared.placement.Transform.TheVariants.{Scaled}
use Rattle.oasis_values.proofs.Codes.{then_code, seen_code}
use Rattle.oasis_values.proofs.Reading.{reads_err, reads_seen, reads_seen_err, reads_then}
use Rattle.std.proofs.Common.{◌/◌}
use Rattle.std.proofs.lemmas.Result.{err_from_is_err_and}
use Rattle.oasis_values.proofs.Values.{real_code}
use Rattle.oasis_records.proofs.placement.scaled_of.Goals as goal

pub returns-in_err-cell : goal.returns-in_err-cell
returns-in_err-cell g c =
    let p = err_from_is_err_and c.from_residual.result c.from_residual.ensures.1 in
    rw (p.1, p.2) (record {
      reads = reads_err _
          (λ d. then_code (if_code _ real_code)
          (λ m. then_code (if_code _ real_code)
          (λ a. seen_code (placement c.args.info d (Scaled m a)) (position_code (c.args.info / 2)))))
          c.in_err-cell.ensures.reads;
    })

pub returns-in_err-magnification : goal.returns-in_err-magnification
returns-in_err-magnification g c =
    let p = err_from_is_err_and c.from_residual-in_err-magnification.result
    c.from_residual-in_err-magnification.ensures.1 in
    rw (p.1, p.2) (record {
      reads = reads_then _ c.in_ok-cell.ensures.reads
          (reads_err _
          (λ m. then_code (if_code _ real_code)
          (λ a. seen_code (placement c.args.info c.in_ok-cell.cell (Scaled m a))
          (position_code (c.args.info / 2)))) c.in_err-magnification.ensures.reads);
    })

pub returns-in_err-angle : goal.returns-in_err-angle
returns-in_err-angle g c =
    let p = err_from_is_err_and c.from_residual-in_err-angle.result c.from_residual-in_err-angle.ensures.1 in
    rw (p.1, p.2) (record {
      reads = reads_then _ c.in_ok-cell.ensures.reads
          (reads_then _ c.in_ok-magnification.ensures.reads
          (reads_err _
          (λ a. seen_code (placement c.args.info c.in_ok-cell.cell (Scaled c.in_ok-magnification.magnification a))
          (position_code (c.args.info / 2))) c.in_err-angle.ensures.reads));
    })

pub returns-in_err-position : goal.returns-in_err-position
returns-in_err-position g c =
    let p = err_from_is_err_and c.from_residual-in_err-position.result c.from_residual-in_err-position.ensures.1 in
    rw (p.1, p.2) (record {
      reads = reads_then _ c.in_ok-cell.ensures.reads
          (reads_then _ c.in_ok-magnification.ensures.reads
          (reads_then _ c.in_ok-angle.ensures.reads (reads_seen_err _ c.in_err-position.ensures.reads)));
    })

pub returns : goal.returns
returns g c =
    rw c.has.ensures
    (record {
      reads = reads_then _ c.in_ok-cell.ensures.reads
          (reads_then _ c.in_ok-magnification.ensures.reads
          (reads_then _ c.in_ok-angle.ensures.reads (reads_seen _ c.in_ok-position.ensures.reads)));
    })
