use Rattle.std.proofs.Common.{◌≡◌, ℤ, ◌<ℤ◌, rules, sym, subst}
use Rattle.std.specs.Int.{w64}
use mir.Val.{to_z, of_z}
use Rattle.lvl_grid.specs.declared.point.Window.{Window}
use Rattle.lvl_compare.specs.inside.Strips.{AreHalves}
use Rattle.lvl_compare.proofs.InStrips.{cut_rows}
use Rattle.lvl_compare.proofs.strips.rows_of.Goals as goal

-- the coordinate, as stored in 64 bits
abbrev kept : ℤ → ℤ
kept z = to_z w64 (of_z w64 z)

pub returns : goal.returns
returns c =
    let w : Window = c.args.window.now in
    let from : kept w.y0 ≡ w.y0 = search rules in
    let to : kept w.y1 ≡ w.y1 = search rules in
    let m : ℤ = kept c.in_ok-y.y in
    let middle : m ≡ c.in_ok-y.y = search rules in
    let after : w.y0 <ℤ m =
    subst (λ z. w.y0 <ℤ z) (sym middle) (subst (λ z. z <ℤ c.in_ok-y.y) from c.in_ok-y.ensures.0) in
    let before : m <ℤ w.y1 =
    subst (λ z. z <ℤ w.y1) (sym middle) (subst (λ z. c.in_ok-y.y <ℤ z) to c.in_ok-y.ensures.1) in
    subst (λ a. AreHalves w a c.above.result) (sym c.below.ensures)
    (subst (AreHalves w _) (sym c.above.ensures) (cut_rows w m after before))
