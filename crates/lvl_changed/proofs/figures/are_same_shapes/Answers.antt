use Rattle.std.proofs.Common.{ap, sym, ◌∙◌, arith}
use Rattle.lvl_view.specs.Views.{target_of}
use Rattle.lvl_changed.proofs.Lists.{same_layer}
use Rattle.lvl_changed.proofs.figures.are_same_shapes.Goals as goal

pub returns : goal.returns
returns c = λ shifts. record {
  within = omega (arith, c.if-j-len.false, c.len.ensures);
  layer =
      ap (target_of c.args.first.view.now.pairs) (sym c.layer.ensures)
      ∙ (sym c.target-ours.ensures
      ∙ (same_layer c.target-ours.result c.target-theirs.result c.if-ours-theirs.false c.if-ours-theirs-2.false
      ∙ (c.target-theirs.ensures ∙ ap (target_of c.args.second.view.now.pairs) c.layer-2.ensures)));
  figure = c.are_same_figures.ensures c.if-not-are_same_figures.false;
  shifts = c.have_same_shifts.ensures shifts;
}
