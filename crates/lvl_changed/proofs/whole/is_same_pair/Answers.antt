use Rattle.std.proofs.Common.{◌↔◌, sym, subst}
use Rattle.lvl_flat.specs.Flattened.{CoversAt}
use Rattle.lvl_changed.specs.inside.Finding.{PartnerCovers}
use Rattle.lvl_changed.proofs.whole.is_same_pair.Goals as goal

pub returns : goal.returns
returns c = λ is found l s.
    subst
    (λ o. CoversAt c.args.pair.now.first.now.cells c.args.cell l s
    ↔ PartnerCovers c.args.pair.now.view.now.pairs c.args.pair.now.second.now.cells o l s) (sym c.in-Some.is)
    (c.in_ok-is_same.ensures is
    (λ k q out.
    subst
    (λ o. CoversAt c.args.pair.now.first.now.cells c.args.cell k q
    ↔ PartnerCovers c.args.pair.now.view.now.pairs c.args.pair.now.second.now.cells o k q) c.in-Some.is
    (found k q out)) l s)
