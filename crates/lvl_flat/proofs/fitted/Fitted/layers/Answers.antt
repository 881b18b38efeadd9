use Rattle.std.proofs.Common.{ap, subst, ◌∙◌}
use Rattle.std.proofs.lemmas.Result.{IfOk-weaker}
use Rattle.lvl_cells.specs.Checks.{Settled}
use Rattle.lvl_flat.specs.inside.Walking.{AllListed}
use Rattle.lvl_flat.proofs.Listing.{top_listed}
use Rattle.lvl_flat.proofs.fitted.Fitted.layers.Goals as goal

pub returns-clause-all : goal.returns-clause-all
returns-clause-all c =
    IfOk-weaker c.layers_of.result _ _
    (λ layers all. top_listed c.args.self.now layers.items (subst (AllListed layers.items) (c.cells.ensures.value ∙
    ap (λ (s : Settled). s.cells) c.self.view_is) all))
    c.layers_of.ensures.all
