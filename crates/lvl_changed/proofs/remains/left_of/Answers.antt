use Rattle.std.proofs.Common.{List}
use Rattle.lvl_view.specs.declared.map.LayerPair.{LayerPair}
use Rattle.lvl_changed.specs.inside.Arrays.{all_places}
use Rattle.lvl_changed.specs.inside.Shapes.{ShapesCover}
use Rattle.lvl_changed.proofs.Remaining.{remain_both, remain_left, remain_of, remain_places}
use Rattle.lvl_changed.proofs.Unchanged.{moved_none}
use Rattle.lvl_changed.proofs.remains.left_of.Goals as goal

pub returns : goal.returns
returns c = λ pair l s.
    let none : List LayerPair = c.whole-whole.result.pairs in
    let is = c.whole-whole.ensures.no_pairs in
    remain_both
    (remain_of
    (remain_left none none c.args.ours.shapes c.args.theirs.shapes _ _ c.in_ok-shapes.ensures.ours
    c.in_ok-shapes.ensures.theirs l s) (moved_none none is (ShapesCover c.args.ours.shapes) l s)
    (moved_none none is (ShapesCover c.args.theirs.shapes) l s))
    (remain_places pair.view.now.pairs pair.second.now.cells (all_places c.args.ours.placed)
    (all_places c.args.theirs.placed) _ _ c.in_ok-placed.ensures.ours c.in_ok-placed.ensures.theirs l s)
