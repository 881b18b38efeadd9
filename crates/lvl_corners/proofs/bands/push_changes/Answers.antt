use Rattle.std.proofs.Common.{int_eq, rules, FitsSigned}
use Rattle.std.specs.Int.{w64}
use Rattle.std.proofs.lemmas.Int.{to_z-of_z}
use Rattle.lvl_corners.specs.Corners.{bit}
use Rattle.lvl_corners.specs.inside.Marks.{net}
use Rattle.lvl_corners.proofs.Rows.{changed}
use Rattle.lvl_corners.proofs.bands.push_changes.Goals as goal

pub returns : goal.returns
returns c =
    let y_fits : FitsSigned w64 c.args.y = c.ranges.y in
    let a_fits : FitsSigned w64 c.args.after.0 = search rules in
    let b_fits : FitsSigned w64 c.args.after.1 = search rules in
    let c_fits : FitsSigned w64 c.args.before.0 = search rules in
    let d_fits : FitsSigned w64 c.args.before.1 = search rules in
    λ x z.
    changed (int_eq c.args.y z) (net x z c.args.marks.now.items) (net x z c.push_change.new.marks.items)
    (net x z c.push_change-2.new.marks.items) (bit (int_eq c.args.after.0 x)) (bit (int_eq c.args.after.1 x))
    (bit (int_eq c.args.before.0 x)) (bit (int_eq c.args.before.1 x))
    (simp to_z-of_z at (c.in_ok-push_change.ensures x z)) (simp to_z-of_z at (c.in_ok-push_change-2.ensures x z))
