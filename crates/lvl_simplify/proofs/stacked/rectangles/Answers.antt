use Rattle.std.proofs.Common.{◌↔◌, ◌⊎◌, ◌<◌, ◌+◌, List, [], take, length, subst, arith}
use Rattle.std.proofs.lemmas.List.{take_all}
use Rattle.lvl_grid.specs.declared.point.Point.{Point}
use Rattle.lvl_grid.specs.Winding.{Covers, SomeCovers}
use Rattle.lvl_simplify.specs.Spanning.{IsWithinSome}
use Rattle.lvl_simplify.proofs.Joining.{any_next, same_next, none_parted}
use Rattle.lvl_simplify.proofs.stacked.rectangles.Goals as goal

pub loop-i-init : goal.loop-i-init
loop-i-init c = λ s. none_parted s _ _ c.in_ok-rest.ensures c.in_ok-windows.ensures.items

pub loop-i-preserved : goal.loop-i-preserved
loop-i-preserved c = λ s.
    let rings : List (List Point) = c.args.rings.now in
    let i = c.loop-i.i in
    let below : i < length rings = omega (arith, c.loop-i-test.true, c.len-i-end.ensures) in
    let next : SomeCovers (take (i + 1) rings) s ↔ (SomeCovers (take i rings) s ⊎ Covers c.ring.result.now s) =
    rw c.ring.ensures.value (any_next (λ r. Covers r s) rings i [] below) in
    same_next (c.loop-i.invariant s) (c.in_ok-part_rectangle.ensures s) next

pub returns : goal.returns
returns c = λ s.
    subst
    (λ (rs : List (List Point)).
    (SomeCovers c.loop-i.rest s ⊎ IsWithinSome c.loop-i.windows.items s) ↔ SomeCovers rs s)
    (take_all c.loop-i.i c.args.rings.now (omega (arith, c.loop-i-test.false, c.len-i-end.ensures)))
    (c.loop-i.invariant s)
