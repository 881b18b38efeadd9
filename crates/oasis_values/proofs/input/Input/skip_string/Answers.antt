use Rattle.std.proofs.lemmas.Result.{err_from_is_err_and}
use Rattle.oasis_values.specs.Known.{Known}
use Rattle.oasis_values.specs.Spelling.{Then}
use Rattle.oasis_values.specs.Texts.{any_length, AreUnkeptCharacters}
use Rattle.oasis_values.proofs.Reading.{reads_err, reads_then, reads_refutes}
use Rattle.oasis_values.proofs.Values.{after_any_length_code, unkept_characters_code, unkept_string_code}
use Rattle.oasis_values.specs.declared.fault.ValueFault.TheVariants.{StringByte}
use Rattle.oasis_values.proofs.input.Input.skip_string.Goals as goal

pub returns-in_err-number : goal.returns-in_err-number
returns-in_err-number g c =
    let p = err_from_is_err_and c.from_residual.result c.from_residual.ensures.1 in
    let read = reads_err (λ n. Then (Known (any_length c.args.kind n) StringByte) (AreUnkeptCharacters c.args.kind))
    (after_any_length_code c.args.kind) c.in_err-number.ensures.reads in
    rw (p.1, p.2) (record { reads = read; none = reads_refutes (unkept_string_code c.args.kind) read })

pub returns-in_err-len : goal.returns-in_err-len
returns-in_err-len g c =
    let p = err_from_is_err_and c.from_residual-in_err-len.result c.from_residual-in_err-len.ensures.1 in
    let q = rw c.any_length.ensures at c.in_err-len.ensures.reads in
    let read = reads_then (λ n. Then (Known (any_length c.args.kind n) StringByte) (AreUnkeptCharacters c.args.kind))
    c.in_ok-number.ensures.reads (reads_err (AreUnkeptCharacters c.args.kind) (unkept_characters_code c.args.kind) q) in
    rw (p.1, p.2) (record { reads = read; none = reads_refutes (unkept_string_code c.args.kind) read })

pub returns : goal.returns
returns g c =
    let q = rw c.any_length.ensures at c.in_ok-len.ensures.reads in
    let read = reads_then (λ n. Then (Known (any_length c.args.kind n) StringByte) (AreUnkeptCharacters c.args.kind))
    c.in_ok-number.ensures.reads (reads_then (AreUnkeptCharacters c.args.kind) q c.skip_characters.ensures.reads) in
    record { reads = read; none = reads_refutes (unkept_string_code c.args.kind) read }
