use Rattle.std.proofs.Common.{refl, ap, ◌∙◌}
use Rattle.std.proofs.lemmas.Result.{err_from_is_err_and}
use Rattle.lvl_count.specs.Listed.{listed}
use Rattle.lvl.specs.Listings.{IsListedFile}
use Rattle.lvl.specs.Sides.{file_named}
use Rattle.lvl.proofs.CellLists.{file_listed}
use Rattle.lvl.proofs.Showing.{found_in, none_found}
use Rattle.lvl.proofs.cells.list_cells.Goals as goal

pub returns-in_err-library-clause-found : goal.returns-in_err-library-clause-found
returns-in_err-library-clause-found g c top =
    let p = err_from_is_err_and c.from_residual.result c.from_residual.ensures.1 in
    rw (p.1, p.2) (none_found IsListedFile _ c.in_err-library.field-0.0 (c.in_err-library.ensures.refused top)
    c.in_err-library.ensures.own)

pub returns-in-Ok-clause-found : goal.returns-in-Ok-clause-found
returns-in-Ok-clause-found g c top =
    found_in IsListedFile _ c.in_ok-library.library c.in_ok-library.head (c.in_ok-library.ensures.refused top)
    c.in_ok-library.ensures.read _
    (λ xs known. file_listed (file_named c.args.profile xs top) c.in_ok-library.library c.in_ok-library.head
    (c.in_ok-library.ensures.read xs known)
    (record { head = c.in_ok-library.head; cells = c.in-Ok.cells }) refl
    (c.in-Ok.ensures ∙ ap listed (c.deref.ensures.value ∙ c.library.view_is))) tt

pub returns-clause-found : goal.returns-clause-found
returns-clause-found g c top =
    found_in IsListedFile _ c.in_ok-library.library c.in_ok-library.head (c.in_ok-library.ensures.refused top)
    c.in_ok-library.ensures.read _ (λ xs known. tt) tt
