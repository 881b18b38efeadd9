use Rattle.std.proofs.Common.{◌∙◌, ap, rules}
use Rattle.std.proofs.lemmas.Fn.{filter_same}
use Rattle.std.proofs.lemmas.List.Sorted.{answers_always}
use Rattle.lvl_corners.specs.declared.mark.Mark.{Mark}
use Rattle.lvl_corners.specs.inside.Marks.{net}
use Rattle.lvl_corners.specs.Spans.{spanned}
use Rattle.lvl_corners.proofs.Nets.{net_permutation, net_filter}
use Rattle.lvl_corners.proofs.Orders.{in_order}
use Rattle.lvl_corners.proofs.part.sort_within.Goals as goal

pub returns-clause-changes : goal.returns-clause-changes
returns-clause-changes c = λ u v.
    let kept = filter_same _ (λ (m : Mark). spanned c.args.span m.x) _ (λ m b q h. search rules) _ _
    c.retain.ensures.filtered in
    let sorted = net_permutation u v c.retain.new.self.items c.sort_unstable_by_key.new.self.items
    c.sort_unstable_by_key.ensures.permutation in
    sorted ∙ (ap (net u v) kept ∙ net_filter u v (λ z w. spanned c.args.span z) c.args.marks.now.items)

pub returns-clause-order : goal.returns-clause-order
returns-clause-order c =
    in_order _ (c.sort_unstable_by_key.ensures.sorted (λ m. (m.x, m.y))
    (answers_always _ _ _ (λ f a r g h. search rules)))
