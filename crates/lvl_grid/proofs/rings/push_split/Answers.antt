use Rattle.std.proofs.Common.{All, w64, FitsSigned}
use Rattle.std.proofs.lemmas.Int.{to_z-of_z}
use Rattle.std.proofs.lemmas.Result.{on_ok_weaker}
use Rattle.lvl_grid.specs.declared.part.Part.TheVariants.{Left, Right}
use Rattle.lvl_grid.specs.Clip.{IsBeyond}
use Rattle.lvl_grid.proofs.Clipped.{kept_more, missed_none, kept_left, kept_right}
use Rattle.lvl_grid.proofs.rings.push_split.Goals as goal

pub returns-then-misses-clause-left : goal.returns-then-misses-clause-left
returns-then-misses-clause-left c =
    let fits : FitsSigned w64 c.args.at = c.ranges.at in
    let all : All (IsBeyond (Right c.args.at)) c.args.ring.now =
    rw (to_z-of_z w64 _ fits) at (c.if-misses.ensures cc) in
    on_ok_weaker c.push.result
    (λ e s. kept_more (Left c.args.at) c.args.left.now c.push.new.self c.args.ring.now s
    (kept_left c.args.at c.args.ring.now all) e) c.push.ensures.ok

pub returns-then-misses-clause-right : goal.returns-then-misses-clause-right
returns-then-misses-clause-right c =
    let fits : FitsSigned w64 c.args.at = c.ranges.at in
    let all : All (IsBeyond (Right c.args.at)) c.args.ring.now =
    rw (to_z-of_z w64 _ fits) at (c.if-misses.ensures cc) in
    on_ok_weaker c.push.result (λ e s. missed_none (Right c.args.at) c.args.right.now c.args.ring.now s all)
    c.push.ensures.ok

pub returns-then-misses-2-clause-left : goal.returns-then-misses-2-clause-left
returns-then-misses-2-clause-left c =
    let fits : FitsSigned w64 c.args.at = c.ranges.at in
    let all : All (IsBeyond (Left c.args.at)) c.args.ring.now =
    rw (to_z-of_z w64 _ fits) at (c.if-misses-2.ensures cc) in
    on_ok_weaker c.push-then-misses-2.result (λ e s. missed_none (Left c.args.at) c.args.left.now c.args.ring.now s all)
    c.push-then-misses-2.ensures.ok

pub returns-then-misses-2-clause-right : goal.returns-then-misses-2-clause-right
returns-then-misses-2-clause-right c =
    let fits : FitsSigned w64 c.args.at = c.ranges.at in
    let all : All (IsBeyond (Left c.args.at)) c.args.ring.now =
    rw (to_z-of_z w64 _ fits) at (c.if-misses-2.ensures cc) in
    on_ok_weaker c.push-then-misses-2.result
    (λ e s. kept_more (Right c.args.at) c.args.right.now c.push-then-misses-2.new.self c.args.ring.now s
    (kept_right c.args.at c.args.ring.now all) e) c.push-then-misses-2.ensures.ok

pub returns-clause-left : goal.returns-clause-left
returns-clause-left c = λ s.
    let fits : FitsSigned w64 c.args.at = c.ranges.at in
    rw (to_z-of_z w64 _ fits) at (c.in_ok-push_clipped.ensures.covers s)

pub returns-clause-right : goal.returns-clause-right
returns-clause-right c = λ s.
    let fits : FitsSigned w64 c.args.at = c.ranges.at in
    rw (to_z-of_z w64 _ fits) at (c.in_ok-push_clipped-2.ensures.covers s)
