use Rattle.std.proofs.Common.{w64, FitsSigned, rules}
use Rattle.std.proofs.lemmas.Int.{to_z-of_z}
use Rattle.lvl_simplify.proofs.Teeth.{four_pushed}
use Rattle.lvl_simplify.proofs.redraw.push_tooth.Goals as goal

pub returns : goal.returns
returns c =
    let l = to_z-of_z w64 c.args.left c.ranges.left in
    let x_fits : FitsSigned w64 c.args.upright.x = search rules in
    let from_fits : FitsSigned w64 c.args.upright.from = search rules in
    let to_fits : FitsSigned w64 c.args.upright.to = search rules in
    let x = to_z-of_z w64 _ x_fits in
    let from = to_z-of_z w64 _ from_fits in
    let to = to_z-of_z w64 _ to_fits in
    four_pushed c.args.points.now.items c.push.new.self.items c.push-2.new.self.items c.push-3.new.self.items
    c.push-4.new.self.items _ _ _ _ (rw (l, from) at c.in_ok-push.ensures.items)
    (rw (x, from) at c.in_ok-push-2.ensures.items) (rw (x, to) at c.in_ok-push-3.ensures.items)
    (rw (l, to) at c.in_ok-push-4.ensures.items)
