use Rattle.oasis_values.proofs.Reading.{reads_nothing, reads_seen_err, reads_seen_as}
use Rattle.std.proofs.Common.{ap, sym, arith}
use Rattle.std.proofs.lemmas.Result.{err_from_is_err_and}
use Rattle.std.proofs.lemmas.Int.{ints, to_z-of_z}
use mir.Val.{SFits}
use Rattle.std.specs.Int.{w64}
use Rattle.oasis_records.specs.declared.path.Extension.TheVariants.{Modal, Flush, HalfWidth, Explicit}
use Rattle.oasis_records.proofs.path.read_extension.Goals as goal

pub returns-in_err-far-in-Explicit : goal.returns-in_err-far-in-Explicit
returns-in_err-far-in-Explicit g c =
    let p = err_from_is_err_and c.from_residual.result c.from_residual.ensures.1 in
    rw (p.1, p.2, c.in-Explicit.is) (record { reads = reads_seen_err Explicit c.in_err-far-in-Explicit.ensures.reads })

pub returns-in-Modal : goal.returns-in-Modal
returns-in-Modal g c = rw c.in-Modal.is (record { reads = reads_nothing Modal c.requires })

pub returns-in-Flush : goal.returns-in-Flush
returns-in-Flush g c = rw c.in-Flush.is (record { reads = reads_nothing Flush c.requires })

pub returns-in-HalfWidth : goal.returns-in-HalfWidth
returns-in-HalfWidth g c = rw c.in-HalfWidth.is (record { reads = reads_nothing HalfWidth c.requires })

pub returns-in_ok-far-in-Explicit : goal.returns-in_ok-far-in-Explicit
returns-in_ok-far-in-Explicit g c =
    let fits : SFits w64 c.in_ok-far-in-Explicit.far = omega (arith, ints, c.signed.type_inv) in
    rw c.in-Explicit.is (record {
      reads = reads_seen_as Explicit c.in_ok-far-in-Explicit.ensures.reads
          (ap Explicit (sym (to_z-of_z w64 c.in_ok-far-in-Explicit.far fits)));
    })
