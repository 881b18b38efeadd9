use Rattle.std.proofs.Common.{◌≡◌, ◌<◌, ◌+◌, ◌++◌, ◌∷◌, [], ℤ, List, take, length, ◌↔◌, arith, subst, sym, ◌∙◌, ap, w64}
use Rattle.std.proofs.Common.{to_z, of_z, FitsSigned}
use Rattle.std.proofs.lemmas.Int.{to_z-of_z}
use Rattle.std.proofs.lemmas.List.{take_more, take_all}
use Rattle.lvl_grid.specs.declared.point.Point.{Point}
use Rattle.lvl_grid.specs.declared.part.Part.TheVariants.{Left, Right}
use Rattle.lvl_grid.specs.Winding.{SomeCovers}
use Rattle.lvl_grid.proofs.Clipped.{clip_more, of_none, WithOthers}
use Rattle.lvl_grid.proofs.rings.Rings.split_at.Goals as goal

pub loop-i-preserved : goal.loop-i-preserved
loop-i-preserved c =
    let i = c.loop-i.i in
    let all : List (List Point) = c.args.self.now in
    let ring : List Point = c.ring.result.now in
    let at : ℤ = to_z w64 (of_z w64 c.args.at) in
    let below : i < length all = omega (arith, c.loop-i-test.true, c.len-i-end.ensures) in
    let done : take (i + 1) all ≡ take i all ++ ring ∷ [] =
    take_more all i [] below ∙ ap (λ (r : List Point). take i all ++ r ∷ []) (sym c.ring.ensures.value) in
    record {
      left = λ s.
          subst
          (λ (rs : List (List Point)).
          SomeCovers c.push_split.new.left s ↔ WithOthers (Left at) [] rs s) (sym done)
          (clip_more (Left at) [] (take i all) c.loop-i.left c.push_split.new.left ring s
          (c.loop-i.invariant.left s) (c.in_ok-push_split.ensures.left s));
      right = λ s.
          subst
          (λ (rs : List (List Point)).
          SomeCovers c.push_split.new.right s ↔ WithOthers (Right at) [] rs s) (sym done)
          (clip_more (Right at) [] (take i all) c.loop-i.right c.push_split.new.right ring s
          (c.loop-i.invariant.right s) (c.in_ok-push_split.ensures.right s));
    }

all_seen : (c : goal.After-loop-i) → take c.loop-i.i c.args.self.now ≡ c.args.self.now
all_seen c = take_all c.loop-i.i c.args.self.now (omega (arith, c.loop-i-test.false, c.len-i-end.ensures))

pub returns-clause-left : goal.returns-clause-left
returns-clause-left c = λ s.
    let fits : FitsSigned w64 c.args.at = c.ranges.at in
    of_none (Left c.args.at) c.args.self.now c.loop-i.left s
    (subst (λ (rs : List (List Point)). SomeCovers c.loop-i.left s ↔ WithOthers (Left c.args.at) [] rs s) (all_seen c)
    (rw (to_z-of_z w64 _ fits) at (c.loop-i.invariant.left s)))

pub returns-clause-right : goal.returns-clause-right
returns-clause-right c = λ s.
    let fits : FitsSigned w64 c.args.at = c.ranges.at in
    of_none (Right c.args.at) c.args.self.now c.loop-i.right s
    (subst (λ (rs : List (List Point)). SomeCovers c.loop-i.right s ↔ WithOthers (Right c.args.at) [] rs s) (all_seen c)
    (rw (to_z-of_z w64 _ fits) at (c.loop-i.invariant.right s)))
