use Rattle.std.proofs.Common.{rules, FitsSigned}
use Rattle.std.specs.Int.{w64}
use Rattle.std.proofs.lemmas.Int.{to_z-of_z}
use Rattle.lvl_corners.proofs.bands.push_change.Goals as goal

pub returns : goal.returns
returns c =
    let y_fits : FitsSigned w64 c.args.y = c.ranges.y in
    let left_fits : FitsSigned w64 c.args.interval.0 = search rules in
    let right_fits : FitsSigned w64 c.args.interval.1 = search rules in
    λ x z. simp to_z-of_z at (c.in_ok-push_interval.ensures x z)
