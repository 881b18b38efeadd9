use Rattle.std.proofs.Common.{◌≡◌, ◌<◌, ◌+◌, ◌++◌, ◌∷◌, [], List, take, length, arith, subst, sym, ◌∙◌, ap}
use Rattle.std.proofs.lemmas.List.{take_more, take_all}
use Rattle.lvl_grid.specs.declared.point.Point.{Point}
use Rattle.lvl_columns.specs.Left.{IsLeft}
use Rattle.lvl_columns.proofs.Leaving.{left_none, left_push}
use Rattle.lvl_columns.proofs.cancel.left_of.Goals as goal

pub loop-i-init : goal.loop-i-init
loop-i-init c =
    subst (λ (rs : List (List Point)). IsLeft [] c.args.others.now rs) (sym c.new-left.ensures)
    (left_none c.args.others.now)

pub loop-i-preserved : goal.loop-i-preserved
loop-i-preserved c =
    let i = c.loop-i.i in
    let all : List (List Point) = c.args.rings.now in
    let below : i < length all = omega (arith, c.loop-i-test.true, c.len-i-end.ensures) in
    let done : take (i + 1) all ≡ take i all ++ c.ring.result.now ∷ [] =
    take_more all i [] below ∙ ap (λ (r : List Point). take i all ++ r ∷ []) (sym c.ring.ensures.value) in
    subst (λ (rs : List (List Point)). IsLeft rs c.args.others.now c.push_left.new.left) (sym done)
    (left_push (take i all) c.args.others.now c.loop-i.left c.push_left.new.left c.ring.result.now
    c.loop-i.invariant c.in_ok-push_left.ensures.within c.in_ok-push_left.ensures.all)

pub returns : goal.returns
returns c =
    let all : List (List Point) = c.args.rings.now in
    let whole : take c.loop-i.i all ≡ all =
    take_all c.loop-i.i all (omega (arith, c.loop-i-test.false, c.len-i-end.ensures)) in
    subst (λ (rs : List (List Point)). IsLeft rs c.args.others.now c.loop-i.left) whole c.loop-i.invariant
