use Rattle.std.proofs.Common.{◌≡◌, ◌<◌, ◌+◌, ◌++◌, ◌∷◌, [], List, take, length, ◌↔◌, arith, subst, sym, ◌∙◌, ap}
use Rattle.std.proofs.lemmas.List.{take_more, take_all}
use Rattle.lvl_grid.specs.declared.point.Point.{Point}
use Rattle.lvl_grid.specs.Winding.{SomeCovers}
use Rattle.lvl_grid.specs.Clip.{IsIn}
use Rattle.lvl_grid.proofs.Clipped.{none_clipped, clip_more_alone}
use Rattle.lvl_corners.proofs.columns.clipped.Goals as goal

pub loop-i-init : goal.loop-i-init
loop-i-init c = λ s. none_clipped c.args.part.now c.in_ok-clipped.clipped s c.in_ok-clipped.ensures

pub loop-i-preserved : goal.loop-i-preserved
loop-i-preserved c = λ s.
    let i = c.loop-i.i in
    let all : List (List Point) = c.args.rings.now in
    let below : i < length all = omega (arith, c.loop-i-test.true, c.len-i-end.ensures) in
    let done : take (i + 1) all ≡ take i all ++ c.ring.result.now ∷ [] =
    take_more all i [] below ∙ ap (λ (r : List Point). take i all ++ r ∷ []) (sym c.ring.ensures.value) in
    subst
    (λ (rs : List (List Point)). SomeCovers c.push_clipped.new.self s ↔ (IsIn c.args.part.now s × SomeCovers rs s))
    (sym done)
    (clip_more_alone c.args.part.now (take i all) c.loop-i.clipped c.push_clipped.new.self c.ring.result.now s
    (c.loop-i.invariant s) (c.in_ok-push_clipped.ensures.covers s))

pub returns : goal.returns
returns c = λ s.
    let all : List (List Point) = c.args.rings.now in
    let whole : take c.loop-i.i all ≡ all =
    take_all c.loop-i.i all (omega (arith, c.loop-i-test.false, c.len-i-end.ensures)) in
    subst (λ (rs : List (List Point)). SomeCovers c.loop-i.clipped s ↔ (IsIn c.args.part.now s × SomeCovers rs s)) whole
    (c.loop-i.invariant s)
