use Rattle.std.proofs.Common.{◌≡◌, ◌*◌, ◌-◌, ℤ, ℕ, List, Some, slice_get, rules, sym, ap, ◌∙◌, arith}
use Rattle.std.specs.Int.{w64}
use mir.Val.{to_z, of_z}
use Rattle.lvl_grid.specs.declared.point.Point.{Point}
use Rattle.lvl_flat.proofs.Replacing.{has_ends}
use Rattle.lvl_flat.proofs.near.ends_of.Goals as goal

-- the coordinate, as stored in 64 bits
abbrev kept : ℤ → ℤ
kept z = to_z w64 (of_z w64 z)

pub returns : goal.returns
returns c =
    let ring : List Point = c.args.ring.now in
    let k : ℕ = c.args.k in
    let end : ℕ = c.args.end in
    let p : Point = c.in_ok-first.first in
    let q : Point = c.in_ok-last.last in
    let at : slice_get ring (128 * k) ≡ Some p =
    ap (slice_get ring) (omega (arith, c.in_ok-checked_mul.ensures)) ∙ (sym c.get.ensures ∙ c.in_ok-first.was) in
    let at' : slice_get ring (128 * end - 1) ≡ Some q =
    ap (slice_get ring) (omega (arith, c.in_ok-checked_mul-2.ensures, c.in_ok-checked_sub.ensures))
    ∙ (sym c.get-2.ensures ∙ c.in_ok-last.was) in
    let x : kept p.x ≡ p.x = search rules in
    let y : kept q.y ≡ q.y = search rules in
    rw (x, y) (has_ends ring k end p q c.requires.order c.requires.whole at at')
