use Rattle.std.proofs.lemmas.Result.{err_from_is_err_and}
use Rattle.oasis_values.specs.Known.{Known, Seen}
use Rattle.oasis_values.specs.PointLists.{origin}
use Rattle.oasis_values.specs.Repetitions.{lattice_in_range}
use Rattle.oasis_values.proofs.Reading.{reads_err, reads_then, reads_seen, reads_seen_err}
use Rattle.oasis_values.proofs.Places.{placed_code}
use Rattle.oasis_values.specs.declared.fault.ValueFault.TheVariants.{OutOfRange}
use Rattle.oasis_values.proofs.input.Input.columns.Goals as goal

pub returns-in_err-step : goal.returns-in_err-step
returns-in_err-step g c =
    let p = err_from_is_err_and c.from_residual.result c.from_residual.ensures.1 in
    rw (p.1, p.2) (record {
      reads = reads_err
          (λ a. Seen (λ _. a) (Known (lattice_in_range a c.args.count origin 1) OutOfRange))
          (λ a. placed_code (λ _. a) (lattice_in_range a c.args.count origin 1)) c.in_err-step.ensures.reads;
    })

pub returns-in_err-row : goal.returns-in_err-row
returns-in_err-row g c =
    let p = err_from_is_err_and c.from_residual-in_err-row.result c.from_residual-in_err-row.ensures.1 in
    let q = rw c.lattice.ensures at c.in_err-row.ensures.reads in
    rw (p.1, p.2) (record {
      reads = reads_then
          (λ a. Seen (λ _. a) (Known (lattice_in_range a c.args.count origin 1) OutOfRange)) c.in_ok-step.ensures.reads
          (reads_seen_err (λ _. c.in_ok-step.step) q);
    })

pub returns : goal.returns
returns g c =
    let q = rw c.lattice.ensures at c.in_ok-row.ensures.reads in
    record {
      reads = reads_then (λ a. Seen (λ _. a) (Known (lattice_in_range a c.args.count origin 1) OutOfRange))
          c.in_ok-step.ensures.reads (reads_seen (λ _. c.in_ok-step.step) q);
    }
