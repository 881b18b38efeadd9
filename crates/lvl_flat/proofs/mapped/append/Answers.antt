use Rattle.std.proofs.Common.{◌<◌, ◌++◌, ◌∷◌, [], ℕ, List, take, length, sym, ap, ◌∙◌, append_assoc, arith}
use Rattle.std.proofs.lemmas.List.{append-nil, take_more, take_all}
use Rattle.lvl_grid.specs.declared.point.Point.{Point}
use Rattle.lvl_flat.proofs.mapped.append.Goals as goal

pub loop-i-init : goal.loop-i-init
loop-i-init c = sym (append-nil c.args.rings.now)

pub loop-i-preserved : goal.loop-i-preserved
loop-i-preserved c =
    let more : List (List Point) = c.args.more in
    let i : ℕ = c.loop-i.i in
    let there : i < length more = omega (arith, c.loop-i-test.true, c.len-i-end.ensures) in
    c.in_ok-push.ensures.ok
    ∙ (ap (λ rings. rings ++ c.ring.result.now ∷ []) c.loop-i.invariant
    ∙ (append_assoc c.args.rings.now (take i more) (c.ring.result.now ∷ [])
    ∙ ap (λ rings. c.args.rings.now ++ rings)
    (ap (λ p. take i more ++ p ∷ []) c.ring.ensures.value ∙ sym (take_more more i [] there))))

pub returns : goal.returns
returns c =
    c.loop-i.invariant
    ∙ ap (λ rings. c.args.rings.now ++ rings)
    (take_all c.loop-i.i c.args.more (omega (arith, c.loop-i-test.false, c.len-i-end.ensures)))
