use Rattle.std.proofs.Common.{◌∙◌, subst, sym}
use Rattle.std.proofs.lemmas.Result.{IfOk-weaker}
use Rattle.lvl_flat.specs.inside.Walking.{AllListed}
use Rattle.lvl_flat.proofs.Listing.{sheets_rise}
use Rattle.lvl_flat.proofs.layers.sheets_of.Goals as goal

pub returns-clause-sorted : goal.returns-clause-sorted
returns-clause-sorted c =
    IfOk-weaker c.empty_sheets.result _ _
    (λ sheets e. sheets_rise _ sheets.items c.in_ok-layers_of.ensures.rising (e ∙ c.deref.ensures.value))
    c.empty_sheets.ensures.layers

pub returns-clause-layers : goal.returns-clause-layers
returns-clause-layers c =
    IfOk-weaker c.empty_sheets.result _ _
    (λ sheets e. subst (λ ls. AllListed ls c.args.cells.now) (sym (e ∙ c.deref.ensures.value))
    c.in_ok-layers_of.ensures.all)
    c.empty_sheets.ensures.layers
