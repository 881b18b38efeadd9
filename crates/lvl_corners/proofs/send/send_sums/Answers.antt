use Rattle.std.proofs.Common.{[], ◌++◌, arith, subst, sym, pos, FitsSigned, ◌≡◌, ◌∙◌, ap, get_or}
use Rattle.std.specs.Int.{w8}
use Rattle.std.proofs.lemmas.List.{take_all}
use Rattle.std.proofs.lemmas.List.Elements.{All-nil, All-append}
use Rattle.lvl_corners.specs.declared.mark.Mark.{Mark}
use Rattle.lvl_corners.specs.Corners.{FitsCorner}
use Rattle.lvl_corners.specs.inside.Marks.{net}
use Rattle.lvl_corners.specs.inside.Sums.{corners_of_sum, AreSummed}
use Rattle.lvl_corners.proofs.Sums.{change_done, change_is, change_more, summed_step, summed_none, summed_all}
use Rattle.lvl_corners.proofs.Sums.{totals_none}
use Rattle.lvl_corners.proofs.send.send_sums.Goals as goal

pub returns-in_default : goal.returns-in_default
returns-in_default g c = (
  [],
  g.met.S.CornerSink.takes_none c.args.sink.now,
  All-nil FitsCorner,
  totals_none c.args.marks.now (omega (arith, c.in_default.ensures.item.3)),
)

pub loop-mark-init : goal.loop-mark-init
loop-mark-init g c =
    let first : Mark = c.in-Some.first.now in
    let is : first ≡ get_or c.args.marks.now 0 first = c.in-Some.ensures.item.3.1 first in
    record {
      sent = [];
      taken = g.met.S.CornerSink.takes_none c.args.sink.now;
      fits = All-nil FitsCorner;
      summed = rw c.at-sum.ensures (subst (λ (m : Mark). AreSummed c.args.marks.now 0 [] (record {
        x = m.x;
        y = m.y;
        change =
            pos 0;
      }))
          (sym is) (summed_none c.args.marks.now first c.requires.order));
    }

pub step-requires-clause-small : goal.step-requires-clause-small
step-requires-clause-small g c = λ apart.
    subst (FitsSigned w8)
    (change_done c.args.marks.now c.loop-mark.mark-index c.loop-mark.invariant.sent c.loop-mark.sum _ c.requires.order
    c.loop-mark.invariant.summed c.loop-mark-test.true apart) (c.requires.small c.loop-mark.sum.x c.loop-mark.sum.y)

pub step-requires-clause-few : goal.step-requires-clause-few
step-requires-clause-few g c = λ at.
    change_more c.loop-mark.mark-index c.loop-mark.sum.change _ c.loop-mark.invariant.summed.low c.loop-mark.invariant.summed.high
    (omega (arith, c.loop-mark-test.true))

pub loop-mark-preserved : goal.loop-mark-preserved
loop-mark-preserved g c =
    let more = c.in_ok-sum.ensures in
    record {
      sent = c.loop-mark.invariant.sent ++ more.0;
      taken = g.met.S.CornerSink.takes_both c.args.sink.now c.loop-mark.sink c.step.new.sink c.loop-mark.invariant.sent more.0
          c.loop-mark.invariant.taken more.1;
      fits = All-append FitsCorner c.loop-mark.invariant.sent more.0 c.loop-mark.invariant.fits more.2;
      summed = summed_step c.args.marks.now c.loop-mark.mark-index c.loop-mark.invariant.sent more.0 c.loop-mark.sum
          c.in_ok-sum.sum _
          c.requires.order c.loop-mark.invariant.summed c.loop-mark-test.true more.3;
    }

pub send-requires : goal.send-requires
send-requires g c =
    subst (FitsSigned w8)
    (ap (net c.loop-mark.sum.x c.loop-mark.sum.y) (sym (take_all c.loop-mark.mark-index c.args.marks.now
    c.loop-mark-test.false)) ∙ change_is c.args.marks.now c.loop-mark.mark-index c.loop-mark.invariant.sent c.loop-mark.sum
    c.loop-mark.invariant.summed) (c.requires.small c.loop-mark.sum.x c.loop-mark.sum.y)

pub returns : goal.returns
returns g c = (
  c.loop-mark.invariant.sent ++ corners_of_sum c.loop-mark.sum,
  g.met.S.CornerSink.takes_both c.args.sink.now c.loop-mark.sink c.send.new.sink c.loop-mark.invariant.sent
      (corners_of_sum c.loop-mark.sum) c.loop-mark.invariant.taken c.in_ok-send.ensures.received,
  All-append FitsCorner c.loop-mark.invariant.sent (corners_of_sum c.loop-mark.sum) c.loop-mark.invariant.fits
      c.in_ok-send.ensures.fits,
  summed_all c.args.marks.now c.loop-mark.mark-index c.loop-mark.invariant.sent c.loop-mark.sum c.loop-mark.invariant.summed
      c.loop-mark-test.false,
)
