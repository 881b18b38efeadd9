use Rattle.std.proofs.Common.{◌∙◌, ap, rules}
use Rattle.std.proofs.lemmas.Fn.{filter_same}
use Rattle.lvl_corners.specs.declared.mark.Mark.{Mark}
use Rattle.lvl_corners.specs.inside.Marks.{net}
use Rattle.lvl_corners.specs.Spans.{spanned}
use Rattle.lvl_corners.proofs.Nets.{net_filter}
use Rattle.lvl_corners.proofs.bands.drop_outside.Goals as goal

pub returns : goal.returns
returns c = λ x y inside.
    let kept = filter_same _ (λ (m : Mark). spanned c.args.span m.x) _ (λ m b q h. search rules) _ _
    c.retain.ensures.filtered in
    ap (net x y) kept ∙ rw inside at (net_filter x y (λ u v. spanned c.args.span u) c.args.marks.now.items)
