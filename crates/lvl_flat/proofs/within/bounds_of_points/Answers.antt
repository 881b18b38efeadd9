use Rattle.std.proofs.Common.{ℕ, ◌≡◌, ◌≤◌, List, Some, All, length, slice_get, take, sym, subst, arith, ◌∙◌}
use Rattle.std.proofs.lemmas.List.{take_all}
use Rattle.std.proofs.lemmas.List.Elements.{All-more, All-weaker}
use Rattle.std.proofs.lemmas.Option.{slice_get_within, get_or_from_slice_get}
use Rattle.lvl_grid.specs.declared.point.Point.{Point}
use Rattle.lvl_flat.specs.declared.bounds.Bounds.{Bounds}
use Rattle.lvl_flat.specs.Boxes.{HoldsPoint}
use Rattle.lvl_flat.proofs.within.bounds_of_points.Goals as goal

pub loop-k-preserved : goal.loop-k-preserved
loop-k-preserved c =
    let ring : List Point = c.args.ring.now in
    let k : ℕ = c.loop-k.k in
    let b : Bounds = c.joined-bounds.result in
    let p : Point = c.in-Some-get.point in
    let seen : slice_get ring k ≡ Some p = sym c.get-in-loop-k.ensures ∙ c.in-Some-get.is in
    All-more (HoldsPoint b) ring k p (slice_get_within ring k p seen)
    (All-weaker (HoldsPoint c.loop-k.bounds) (HoldsPoint b) (λ q w. c.joined-bounds.ensures.first.holds q w)
    (take k ring) c.loop-k.invariant)
    (subst (HoldsPoint b) (sym (get_or_from_slice_get ring k p p seen))
    (c.joined-bounds.ensures.second.holds p c.around.ensures))

pub returns : goal.returns
returns c =
    let long : length c.args.ring.now ≤ c.loop-k.k = omega (arith, c.loop-k-test.false, c.len-k-end.ensures) in
    subst (All (HoldsPoint c.loop-k.bounds)) (take_all c.loop-k.k c.args.ring.now long) c.loop-k.invariant
