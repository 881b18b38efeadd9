use Rattle.std.proofs.Common.{get_or}
use Rattle.lvl_flat.proofs.boxes.hold_ring.Goals as goal

pub returns-clause-held : goal.returns-clause-held
returns-clause-held c = λ k v lt e w.
    let at = c.in_ok-low.ensures k v lt in
    c.joined.ensures.second.holds _ (c.in_ok-held.ensures (get_or c.args.ring.now k v) e
    (record { left = at.left; right = at.right; below = at.below; above = at.above }) w)
