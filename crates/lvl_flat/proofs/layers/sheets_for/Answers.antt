use Rattle.std.proofs.Common.{◌∙◌}
use Rattle.std.proofs.lemmas.Result.{IfOk-weaker}
use Rattle.lvl_flat.proofs.Listing.{sheets_rise, sheets_there}
use Rattle.lvl_flat.proofs.layers.sheets_for.Goals as goal

pub returns-clause-sorted : goal.returns-clause-sorted
returns-clause-sorted c =
    IfOk-weaker c.empty_sheets.result _ _
    (λ sheets e. sheets_rise _ sheets.items c.in_ok-in_order.ensures.rising (e ∙ c.deref.ensures.value))
    c.empty_sheets.ensures.layers

pub returns-clause-layers : goal.returns-clause-layers
returns-clause-layers c =
    IfOk-weaker c.empty_sheets.result _ _
    (λ sheets e. sheets_there c.args.layers.items _ sheets.items c.in_ok-in_order.ensures.all
    (e ∙ c.deref.ensures.value))
    c.empty_sheets.ensures.layers
