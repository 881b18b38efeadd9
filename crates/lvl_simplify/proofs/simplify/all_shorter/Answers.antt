use Rattle.std.proofs.Common.{◌↔◌, ◌⊎◌, ◌<◌, ◌+◌, List, [], take, length, subst, arith}
use Rattle.std.proofs.lemmas.List.{take_all}
use Rattle.lvl_grid.specs.declared.point.Point.{Point}
use Rattle.lvl_grid.specs.Winding.{Covers, SomeCovers}
use Rattle.lvl_simplify.proofs.Joining.{any_next, same_next}
use Rattle.lvl_simplify.proofs.simplify.all_shorter.Goals as goal

pub loop-i-preserved : goal.loop-i-preserved
loop-i-preserved c = λ s.
    let rings : List (List Point) = c.args.rings in
    let i = c.loop-i.i in
    let below : i < length rings = omega (arith, c.loop-i-test.true, c.len-i-end.ensures) in
    let next : SomeCovers (take (i + 1) rings) s ↔ (SomeCovers (take i rings) s ⊎ Covers c.ring.result.now s) =
    rw c.ring.ensures.value (any_next (λ r. Covers r s) rings i [] below) in
    same_next (c.loop-i.invariant s) (c.in_ok-push_shorter.ensures s) next

pub returns : goal.returns
returns c = λ s.
    subst (λ (rs : List (List Point)). SomeCovers c.loop-i.shorter s ↔ SomeCovers rs s)
    (take_all c.loop-i.i c.args.rings (omega (arith, c.loop-i-test.false, c.len-i-end.ensures))) (c.loop-i.invariant s)
