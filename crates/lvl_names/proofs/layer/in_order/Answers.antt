use Rattle.std.proofs.Common.{◌≡◌, List, All, AllPairs, Contains, subst, sym}
use Rattle.std.specs.List.{dedup}
use Rattle.std.proofs.lemmas.List.Filters.{dedup_is}
use Rattle.lvl_names.specs.declared.layer.Layer.{Layer}
use Rattle.lvl_names.specs.Layers.{ComesBefore, same_layer}
use Rattle.lvl_names.proofs.Ordered.{all_of_those, rising, still_there}
use Rattle.lvl_names.proofs.layer.in_order.Goals.{After-dedup}
use Rattle.lvl_names.proofs.layer.in_order.Goals as goal

once : (c : After-dedup) → c.dedup.new.self.items ≡ dedup same_layer c.sort.new.self.items
once c = dedup_is same_layer _ _ c.dedup.ensures.filtered

pub returns-clause-rising : goal.returns-clause-rising
returns-clause-rising c =
    subst (AllPairs ComesBefore) (sym (once c)) (rising c.sort.new.self.items c.in_ok-sort.ensures.sorted)

pub returns-clause-all : goal.returns-clause-all
returns-clause-all c =
    subst (λ (ls : List Layer). All (Contains ls) c.args.layers.items) (sym (once c))
    (still_there c.args.layers.items c.sort.new.self.items c.in_ok-sort.ensures.permutation)

pub returns-clause-only : goal.returns-clause-only
returns-clause-only c =
    subst (All (Contains c.args.layers.items)) (sym (once c))
    (all_of_those c.args.layers.items c.sort.new.self.items c.in_ok-sort.ensures.permutation)
