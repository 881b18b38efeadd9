use Rattle.std.proofs.Common.{◌≡◌, ◌+◌, ◌-◌, ◌*◌, ℕ, List, All, IfSome, take, drop, ap, subst, ◌∙◌, arith}
use Rattle.lvl_grid.specs.declared.point.Point.{Point}
use Rattle.lvl_names.specs.Shifts.{IsBetween}
use Rattle.lvl_cells.specs.Stretches.{stretch_at}
use Rattle.lvl_cells.proofs.outlines.reach_of_stretch.Goals as goal

pub returns : goal.returns
returns c =
    let n : ℕ = c.from-begin.result in
    let ring : List Point = c.args.ring.now in
    let size : 128 * n + 128 - 128 * n ≡ 128 = omega arith in
    let is : take (128 * n + 128 - 128 * n) (drop (128 * n) ring) ≡ stretch_at ring c.args.k =
    ap (λ m. take m (drop (128 * n) ring)) size ∙ ap (λ i. take 128 (drop (128 * i) ring)) c.from-begin.ensures in
    subst (λ ps. IfSome c.reach_of.result (λ reach. All (IsBetween reach.0 reach.1) ps)) is c.reach_of.ensures
