use Rattle.std.proofs.Common.{◌≡◌, List, [], replicate, sym, ◌∙◌, subst}
use Rattle.lvl_cells.specs.declared.walk.Visit.{Visit}
use Rattle.lvl_cells.specs.declared.walk.Mark.TheVariants.{New}
use Rattle.lvl_cells.specs.Soundness.{IsOrder}
use Rattle.lvl_cells.specs.inside.Walking.{IsWalk}
use Rattle.lvl_cells.proofs.Orders.{targets_within, walk_none, all_new, round_by, order_by}
use Rattle.lvl_cells.proofs.order.order_of.Goals as goal

pub walk_all-requires-clause-walk : goal.walk_all-requires-clause-walk
walk_all-requires-clause-walk c =
    let targets = c.args.targets.now in
    let new : c.in_ok-marks.marks.items ≡ replicate c.len-count.result New =
    c.in_ok-marks.ensures.items_if_clones_equal (λ y h. h) in
    let start : IsWalk targets (replicate c.len-count.result New) [] [] =
    walk_none targets (replicate c.len-count.result New) ((all_new c.len-count.result).0 ∙ c.len-count.ensures)
    (all_new c.len-count.result).1 in
    rw (c.deref_mut.ensures.value ∙ new, c.new-path.ensures.items, c.in_ok-finished.ensures.items) start

pub walk_all-requires-clause-within : goal.walk_all-requires-clause-within
walk_all-requires-clause-within c = targets_within c.args.cells.now c.args.targets.now c.requires.targets

pub walk_all-requires-clause-resting : goal.walk_all-requires-clause-resting
walk_all-requires-clause-resting c = c.new-path.ensures.items

pub cycle_of-requires-clause-linked : goal.cycle_of-requires-clause-linked
cycle_of-requires-clause-linked c = c.requires.linked

pub cycle_of-requires-clause-round : goal.cycle_of-requires-clause-round
cycle_of-requires-clause-round c =
    round_by c.args.cells.now c.args.targets.now c.walk_all.new.marks c.walk_all.new.path.items
    c.walk_all.new.finished.items c.in-Some.start c.round_from.result.now c.requires.targets
    c.in_ok-start.ensures.walk (rw c.in-Some.is at c.in_ok-start.ensures.back)
    (rw c.deref.ensures.value at c.round_from.ensures)

pub returns-clause-ok : goal.returns-clause-ok
returns-clause-ok c =
    let targets = c.args.targets.now in
    let done = c.walk_all.new.finished.items in
    let resting : c.walk_all.new.path.items ≡ [] = rw c.in_default.is at c.in_ok-start.ensures.resting in
    let walk : IsWalk targets c.walk_all.new.marks [] done =
    subst (λ (p : List Visit). IsWalk targets c.walk_all.new.marks p done) resting c.in_ok-start.ensures.walk in
    subst (IsOrder c.args.cells.now) (sym c.reverse.ensures.items)
    (order_by c.args.cells.now targets c.walk_all.new.marks done c.requires.linked c.requires.targets walk
    (λ k low. (rw c.in_default.is at c.in_ok-start.ensures.seen) k))
