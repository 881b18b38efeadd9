use Rattle.std.proofs.Common.{◌↔◌, ◌⊎◌, ◌<◌, ◌+◌, List, [], take, length, subst, arith, rules}
use Rattle.std.proofs.lemmas.List.{take_all}
use Rattle.lvl_grid.specs.declared.point.Point.{Point}
use Rattle.lvl_grid.specs.Winding.{Covers, SomeCovers}
use Rattle.lvl_simplify.specs.Spanning.{IsWithinSome}
use Rattle.lvl_simplify.proofs.Joining.{any_pushed, any_next, kept_next, left_out_next}
use Rattle.lvl_simplify.proofs.spanning.uncovered.Goals.{then-not-is_covered+in_ok-push, else-not-is_covered}
use Rattle.lvl_simplify.proofs.spanning.uncovered.Goals as goal

pub loop-i-preserved : goal.loop-i-preserved
loop-i-preserved c = λ s.
    let rings : List (List Point) = c.args.rings.now in
    let i = c.loop-i.i in
    let ring : List Point = c.ring-ring.result.now in
    let below : i < length rings = omega (arith, c.loop-i-test.true, c.len-i-end.ensures) in
    let next : SomeCovers (take (i + 1) rings) s ↔ (SomeCovers (take i rings) s ⊎ Covers ring s) =
    rw c.ring-ring.ensures.value (any_next (λ r. Covers r s) rings i [] below) in
    elim c.if-not-is_covered.branch [
      | then-not-is_covered+in_ok-push w ↦
          rw w.rest-is (kept_next (c.loop-i.invariant s)
          (any_pushed (λ r. Covers r s) c.loop-i.rest w.push.new.self ring w.in_ok-push.ensures.ok) next)
      | else-not-is_covered w ↦
          rw w.rest-is (left_out_next (c.loop-i.invariant s) (c.is_covered.ensures (search rules) s) next)
    ]

pub returns : goal.returns
returns c = λ s.
    subst
    (λ (rs : List (List Point)).
    (SomeCovers c.loop-i.rest s ⊎ IsWithinSome c.args.windows.now s)
    ↔ (SomeCovers rs s ⊎ IsWithinSome c.args.windows.now s))
    (take_all c.loop-i.i c.args.rings.now (omega (arith, c.loop-i-test.false, c.len-i-end.ensures)))
    (c.loop-i.invariant s)
