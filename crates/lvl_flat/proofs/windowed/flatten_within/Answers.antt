use Rattle.std.proofs.Common.{◌⊎◌, subst, sym}
use Rattle.std.specs.Prelude.{IfOk}
use Rattle.lvl_cells.specs.Checks.{Settled}
use Rattle.lvl_flat.specs.Flattened.{IsFlattenedWithin, IsTopInRange}
use Rattle.lvl_flat.specs.inside.Walking.{AllListed}
use Rattle.lvl_flat.proofs.Listing.{sheets_rise}
use Rattle.lvl_flat.proofs.windowed.flatten_within.Goals as goal

pub draw_all-requires-clause-sorted : goal.draw_all-requires-clause-sorted
draw_all-requires-clause-sorted c =
    sheets_rise c.args.layers.now c.in_ok-sheets.sheets.items c.requires.rising c.in_ok-sheets.ensures.layers

pub draw_all-requires-clause-fits : goal.draw_all-requires-clause-fits
draw_all-requires-clause-fits c =
    let s : Settled = c.args.checked.now in
    subst (λ layers. IsTopInRange s ⊎ AllListed layers s.cells) (sym c.in_ok-sheets.ensures.layers) c.requires.fits

pub returns-clause-ok : goal.returns-clause-ok
returns-clause-ok c =
    subst (λ layers. IfOk c.draw_all.result (IsFlattenedWithin c.args.checked.now layers c.args.window.now))
    c.in_ok-sheets.ensures.layers c.draw_all.ensures.ok
