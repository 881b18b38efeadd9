use Rattle.std.proofs.Common.{ℕ, ◌≡◌, ◌<◌, length, get_or, arith, pos, sym, ap, subst, ◌∙◌}
use Rattle.std.proofs.lemmas.List.{get_or_default}
use Rattle.lvl_grid.specs.declared.point.Point.{Point}
use Rattle.lvl_grid.specs.Turn.{FitsPoint, shifted}
use Rattle.lvl_cells.proofs.Moving.{again_more, not_apart}
use Rattle.lvl_cells.proofs.shared.is_again.Goals as goal

pub loop-k-preserved : goal.loop-k-preserved
loop-k-preserved c =
    let p : Point = c.in-Some.point in
    let k : ℕ = c.loop-k.k in
    let far : k < length c.args.kept.now = omega (arith, c.loop-k-test.true) in
    let near : k < length c.args.ring.now = omega (arith, c.loop-k-test.true, c.if-kept-ring.false) in
    let none : Point = record { x = pos 0; y = pos 0 } in
    let moved : p ≡ shifted c.args.by (get_or c.args.kept.now k none) = c.in-Some.ensures.1 in
    let there : get_or c.args.kept.now k none ≡ get_or c.args.kept.now k p =
    sym (get_or_default c.args.kept.now k p none far) in
    let same : p ≡ get_or c.args.ring.now k none = not_apart p (get_or c.args.ring.now k none) c.if-ne.ensures in
    again_more c.args.kept.now c.args.by c.args.ring.now k p far near c.loop-k.invariant
    (subst FitsPoint (sym moved) c.in-Some.ensures.0) (moved ∙ ap (shifted c.args.by) there)
    (same ∙ sym (get_or_default c.args.ring.now k p none near))
