use Rattle.std.proofs.Common.{AllPairs, sym, subst}
use Rattle.std.proofs.lemmas.Result.{IfOk-weaker}
use Rattle.lvl_names.specs.Layers.{ComesBefore}
use Rattle.lvl_compare.proofs.InListed.{listed_apart, listed_same, all_of}
use Rattle.lvl_compare.proofs.listed.difference_on_layers.Goals as goal

pub difference_on_listed-requires : goal.difference_on_listed-requires
difference_on_listed-requires c =
    subst (AllPairs ComesBefore) (sym c.deref.ensures.value) c.in_ok-ordered.ensures.rising

pub returns-clause-same : goal.returns-clause-same
returns-clause-same c =
    IfOk-weaker c.difference_on_listed.result _ _
    (λ found. listed_same _ _ _ _ _ found (all_of _ _ _ _ c.in_ok-from_slice.ensures.items c.deref.ensures.value
    c.in_ok-ordered.ensures.all)) c.difference_on_listed.ensures

pub returns-clause-differ : goal.returns-clause-differ
returns-clause-differ c =
    IfOk-weaker c.difference_on_listed.result _ _
    (λ found. listed_apart _ _ _ _ _ found (all_of _ _ _ _ c.in_ok-from_slice.ensures.items c.deref.ensures.value
    c.in_ok-ordered.ensures.all)) c.difference_on_listed.ensures
