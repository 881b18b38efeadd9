use Rattle.std.proofs.Common.{◌≡◌, w64, arith}
use Rattle.std.proofs.lemmas.Int.{ints, to_z-of_z}
use Rattle.lvl_simplify.proofs.Redrawing.{added_none, uprights_pushed}
use Rattle.lvl_simplify.specs.Redraw.{winding_by}
use Rattle.lvl_simplify.proofs.redraw.push_upright.Goals as goal

pub returns-then-from-to : goal.returns-then-from-to
returns-then-from-to c = λ s.
    let e : c.args.from ≡ c.args.to = grind (arith, ints) in
    added_none s c.args.x c.args.from c.args.to (winding_by s c.args.uprights.now.items) e

pub returns : goal.returns
returns c = λ s.
    uprights_pushed s c.args.uprights.now.items c.push.new.self.items
    (record { x = c.args.x; from = c.args.from; to = c.args.to })
    (rw (to_z-of_z w64 _ c.ranges.x, to_z-of_z w64 _ c.ranges.from, to_z-of_z w64 _ c.ranges.to)
    at c.in_ok-push.ensures.items)
