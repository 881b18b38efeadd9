use Rattle.std.proofs.lemmas.Result.{err_from_is_err_and}
use Rattle.oasis_values.specs.Known.{Known, Seen}
use Rattle.oasis_values.specs.PointLists.{origin}
use Rattle.oasis_values.specs.Repetitions.{lattice_in_range, IsShift}
use Rattle.oasis_values.specs.Spelling.{Then}
use Rattle.oasis_values.proofs.Reading.{reads_err, reads_then, reads_seen, reads_seen_err}
use Rattle.oasis_values.proofs.Places.{after_across_code, placed_code}
use Rattle.oasis_values.specs.declared.fault.ValueFault.TheVariants.{OutOfRange}
use Rattle.oasis_values.specs.declared.repetition.Repetition.TheVariants.{New}
use Rattle.oasis_values.proofs.input.Input.matrix_of.Goals as goal

pub returns-in_err-across : goal.returns-in_err-across
returns-in_err-across g c =
    let p = err_from_is_err_and c.from_residual.result c.from_residual.ensures.1 in
    rw (p.1, p.2) (record {
      reads = reads_err
          (λ a. Then (IsShift c.args.second 1 origin)
          (λ b. Seen New (Known (lattice_in_range a c.args.size.columns b c.args.size.rows) OutOfRange)))
          (after_across_code c.args.second c.args.size) c.in_err-across.ensures.reads;
    })

pub returns-in_err-up : goal.returns-in_err-up
returns-in_err-up g c =
    let p = err_from_is_err_and c.from_residual-in_err-up.result c.from_residual-in_err-up.ensures.1 in
    rw (p.1, p.2) (record {
      reads = reads_then
          (λ a. Then (IsShift c.args.second 1 origin)
          (λ b. Seen New (Known (lattice_in_range a c.args.size.columns b c.args.size.rows) OutOfRange)))
          c.in_ok-across.ensures.reads
          (reads_err
          (λ b. Seen New
          (Known (lattice_in_range c.in_ok-across.across c.args.size.columns b c.args.size.rows) OutOfRange))
          (λ b. placed_code New (lattice_in_range c.in_ok-across.across c.args.size.columns b c.args.size.rows))
          c.in_err-up.ensures.reads);
    })

pub returns-in_err-places : goal.returns-in_err-places
returns-in_err-places g c =
    let p = err_from_is_err_and c.from_residual-in_err-places.result c.from_residual-in_err-places.ensures.1 in
    let q = rw c.lattice-places.ensures at c.in_err-places.ensures.reads in
    rw (p.1, p.2) (record {
      reads = reads_then
          (λ a. Then (IsShift c.args.second 1 origin)
          (λ b. Seen New (Known (lattice_in_range a c.args.size.columns b c.args.size.rows) OutOfRange)))
          c.in_ok-across.ensures.reads
          (reads_then
          (λ b. Seen New
          (Known (lattice_in_range c.in_ok-across.across c.args.size.columns b c.args.size.rows) OutOfRange))
          c.in_ok-up.ensures.reads (reads_seen_err New q));
    })

pub returns : goal.returns
returns g c =
    let q = rw c.lattice-places.ensures at c.in_ok-places.ensures.reads in
    record {
      reads = reads_then (λ a. Then (IsShift c.args.second 1 origin)
          (λ b. Seen New (Known (lattice_in_range a c.args.size.columns b c.args.size.rows) OutOfRange)))
          c.in_ok-across.ensures.reads
          (reads_then
          (λ b. Seen New
          (Known (lattice_in_range c.in_ok-across.across c.args.size.columns b c.args.size.rows) OutOfRange))
          c.in_ok-up.ensures.reads (reads_seen New q));
    }
