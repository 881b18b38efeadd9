use Rattle.std.proofs.Common.{refl, rules}
use Rattle.std.specs.Int.{w64}
use mir.Val.{SFits}
use Rattle.std.proofs.lemmas.Int.{to_z-of_z}
use Rattle.lvl_names.proofs.offsets.has_far_corner.Goals as goal

pub returns-then-stays : goal.returns-then-stays
returns-then-stays c =
    let ax : SFits w64 c.args.a.x = search rules in
    let bx : SFits w64 c.args.b.x = search rules in
    let ay : SFits w64 c.args.a.y = search rules in
    let by : SFits w64 c.args.b.y = search rules in
    let xs = rw (to_z-of_z w64 c.args.a.x ax, to_z-of_z w64 c.args.b.x bx) at c.if-stays.ensures in
    let ys = rw (to_z-of_z w64 c.args.a.y ay, to_z-of_z w64 c.args.b.y by) at c.stays-then-stays.ensures in
    (λ t. record { counts = c.if-not-are_few.ensures.few.0 refl; xs = xs.0 refl; ys = ys.0 t }, λ h. ys.1 h.ys)
