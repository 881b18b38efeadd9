use Rattle.std.proofs.Common.{◌≡◌, ℤ, ◌<ℤ◌, rules, sym, subst}
use Rattle.std.specs.Int.{w64}
use mir.Val.{to_z, of_z}
use Rattle.lvl_grid.specs.declared.point.Window.{Window}
use Rattle.lvl_compare.specs.inside.Strips.{AreHalves}
use Rattle.lvl_compare.proofs.InStrips.{cut_columns}
use Rattle.lvl_compare.proofs.strips.columns_of.Goals as goal

-- the coordinate, as stored in 64 bits
abbrev kept : ℤ → ℤ
kept z = to_z w64 (of_z w64 z)

pub returns : goal.returns
returns c =
    let w : Window = c.args.window.now in
    let from : kept w.x0 ≡ w.x0 = search rules in
    let to : kept w.x1 ≡ w.x1 = search rules in
    let m : ℤ = kept c.in_ok-x.x in
    let middle : m ≡ c.in_ok-x.x = search rules in
    let after : w.x0 <ℤ m =
    subst (λ z. w.x0 <ℤ z) (sym middle) (subst (λ z. z <ℤ c.in_ok-x.x) from c.in_ok-x.ensures.0) in
    let before : m <ℤ w.x1 =
    subst (λ z. z <ℤ w.x1) (sym middle) (subst (λ z. c.in_ok-x.x <ℤ z) to c.in_ok-x.ensures.1) in
    subst (λ a. AreHalves w a c.right_of.result) (sym c.left_of.ensures)
    (subst (AreHalves w _) (sym c.right_of.ensures) (cut_columns w m after before))
