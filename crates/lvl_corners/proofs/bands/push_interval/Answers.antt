use Rattle.std.proofs.Common.{rules, FitsSigned}
use Rattle.std.specs.Int.{w64}
use Rattle.std.proofs.lemmas.Int.{to_z-of_z}
use Rattle.lvl_corners.proofs.Nets.{interval_net}
use Rattle.lvl_corners.proofs.bands.push_interval.Goals as goal

pub returns : goal.returns
returns c =
    let y_fits : FitsSigned w64 c.args.y = c.ranges.y in
    let left_fits : FitsSigned w64 c.args.interval.0 = search rules in
    let right_fits : FitsSigned w64 c.args.interval.1 = search rules in
    let one = simp to_z-of_z at c.in_ok-push.ensures.items in
    let two = simp to_z-of_z at c.in_ok-push-2.ensures.items in
    λ x z. rw (two, one) (interval_net x z c.args.marks.now.items c.args.y c.args.interval.0 c.args.interval.1
    c.args.is_first)
