use Rattle.lvl_flat.proofs.Listing.{sheets_rise}
use Rattle.lvl_flat.proofs.fitted.Fitted.within_of.Goals as goal

pub draw_candidates-requires-clause-sorted : goal.draw_candidates-requires-clause-sorted
draw_candidates-requires-clause-sorted c =
    sheets_rise c.args.layers.now c.in_ok-sheets.sheets.items c.requires.rising c.in_ok-sheets.ensures.layers
