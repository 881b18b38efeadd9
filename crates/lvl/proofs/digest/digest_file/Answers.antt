use Rattle.std.proofs.lemmas.Result.{err_from_is_err_and}
use Rattle.std.specs.Option.{option_copied}
use Rattle.lvl.specs.Digested.{IsDigestedFile}
use Rattle.lvl.specs.Sides.{file_named}
use Rattle.lvl.proofs.Digesting.{file_digested}
use Rattle.lvl.proofs.Showing.{found_in, none_found}
use Rattle.lvl.proofs.digest.digest_file.Goals as goal

pub returns-in_err-library : goal.returns-in_err-library
returns-in_err-library g c =
    let p = err_from_is_err_and c.from_residual.result c.from_residual.ensures.1 in
    rw (p.1, p.2) (none_found IsDigestedFile _ c.in_err-library.field-0.0 (c.in_err-library.ensures.refused _)
    c.in_err-library.ensures.own)

pub returns : goal.returns
returns g c =
    found_in IsDigestedFile _ c.in_ok-library.library c.in_ok-library.head (c.in_ok-library.ensures.refused _)
    c.in_ok-library.ensures.read c.digest_library.result
    (λ xs known. file_digested (file_named c.args.profile xs (option_copied c.args.top)) c.in_ok-library.library
    c.in_ok-library.head (c.in_ok-library.ensures.read xs known) c.digest_library.result c.digest_library.ensures.head
    c.digest_library.ensures.digested)
    c.digest_library.ensures.refused
