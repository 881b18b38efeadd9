use Rattle.std.proofs.Common.{◌++◌, ◌∷◌, [], sym, ap, ◌∙◌}
use Rattle.lvl_cells.proofs.Moving.{next_item}
use Rattle.lvl_cells.proofs.moved.MovedRing.to_points.Goals as goal

pub loop-k-preserved : goal.loop-k-preserved
loop-k-preserved c =
    c.push_reserved.ensures.items
    ∙ (ap (λ ps. ps ++ c.in-Some.point ∷ []) c.loop-k.invariant
    ∙ sym (next_item c.args.self.now c.loop-k.k c.in-Some.point (sym c.get.ensures ∙ c.in-Some.is)))
