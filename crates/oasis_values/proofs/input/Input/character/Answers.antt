use Rattle.std.proofs.lemmas.Result.{err_from_is_err_and}
use Rattle.oasis_values.specs.Known.{Known}
use Rattle.oasis_values.specs.Texts.{character}
use Rattle.oasis_values.proofs.Codes.{known_code}
use Rattle.oasis_values.proofs.Reading.{reads_err, reads_then}
use Rattle.oasis_values.specs.declared.fault.ValueFault.TheVariants.{StringByte}
use Rattle.oasis_values.proofs.input.Input.character.Goals as goal

pub returns-in_err-byte : goal.returns-in_err-byte
returns-in_err-byte g c =
    let p = err_from_is_err_and c.from_residual.result c.from_residual.ensures.1 in
    rw (p.1, p.2) (record {
      reads = reads_err (λ b. Known (character c.args.kind b) StringByte)
          (λ b. known_code (character c.args.kind b) StringByte) c.in_err-byte.ensures.reads;
    })

pub returns : goal.returns
returns g c =
    let q = rw c.character.ensures at c.known.ensures.reads in
    record { reads = reads_then (λ b. Known (character c.args.kind b) StringByte) c.in_ok-byte.ensures.reads q }
