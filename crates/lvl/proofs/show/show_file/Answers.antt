use Rattle.std.proofs.lemmas.Result.{err_from_is_err_and}
use Rattle.std.specs.Option.{option_copied}
use Rattle.lvl.specs.Shown.{IsShownFile}
use Rattle.lvl.specs.Sides.{file_named}
use Rattle.lvl.proofs.Showing.{file_shown, found_in, none_found}
use Rattle.lvl.proofs.show.show_file.Goals as goal

pub returns-in_err-library : goal.returns-in_err-library
returns-in_err-library g c =
    let p = err_from_is_err_and c.from_residual.result c.from_residual.ensures.1 in
    rw (p.1, p.2) (none_found IsShownFile _ c.in_err-library.field-0.0 (c.in_err-library.ensures.refused _)
    c.in_err-library.ensures.own)

pub returns : goal.returns
returns g c =
    found_in IsShownFile _ c.in_ok-library.library c.in_ok-library.head (c.in_ok-library.ensures.refused _)
    c.in_ok-library.ensures.read c.show_library.result
    (λ xs known. file_shown (file_named c.args.profile xs (option_copied c.args.top)) c.in_ok-library.library
    c.in_ok-library.head (c.in_ok-library.ensures.read xs known) c.show_library.result c.show_library.ensures.head
    c.show_library.ensures.shown)
    c.show_library.ensures.refused
