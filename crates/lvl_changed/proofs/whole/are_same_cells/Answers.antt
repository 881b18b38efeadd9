use Rattle.std.proofs.lemmas.Result.{IfOk-weaker}
use Rattle.lvl_compare.specs.declared.pair.Pair.{Pair}
use Rattle.lvl_changed.proofs.Tops.{tops_same}
use Rattle.lvl_changed.proofs.whole.are_same_cells.Goals as goal

pub returns : goal.returns
returns c =
    let pair : Pair = c.args.pair.now in
    IfOk-weaker c.are_same_tops.result _ _
    (λ same h is. tops_same pair.view.now.pairs c.args.area.now c.in-Some.changes pair.first.now pair.second.now
    c.in-Some-2.roots.ours c.in-Some-2.roots.theirs c.args.cell c.args.partner
    (rw c.in-Some-2.is at c.in_ok-roots.ensures.ours) (rw c.in-Some-2.is at c.in_ok-roots.ensures.theirs)
    (rw c.in-Some.is at c.in_ok-changes.ensures) (h is)) c.are_same_tops.ensures
