use Rattle.std.proofs.Common.{◌∙◌, ap, rules, int_lt}
use Rattle.std.proofs.lemmas.Fn.{filter_same}
use Rattle.lvl_corners.specs.declared.mark.Mark.{Mark}
use Rattle.lvl_corners.specs.inside.Marks.{net}
use Rattle.lvl_corners.proofs.Nets.{net_filter}
use Rattle.lvl_corners.proofs.Spans.{lt_test}
use Rattle.lvl_corners.proofs.part.drop_from.Goals as goal

pub returns : goal.returns
returns c = λ u v lt.
    let kept = filter_same _ (λ (m : Mark). int_lt m.x c.args.end) _ (λ m b q h. search rules) _ _
    c.retain.ensures.filtered in
    let inside = lt_test u c.args.end lt in
    ap (net u v) kept ∙ rw inside at (net_filter u v (λ z w. int_lt z c.args.end) c.args.marks.now.items)
