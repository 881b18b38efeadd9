use Rattle.lvl_changed.proofs.Growing.{grows_further, grows_itself}
use Rattle.lvl_changed.proofs.Remaining.{same_if_further, same_if_wider}
use Rattle.lvl_changed.specs.inside.Remains.{OursDraw, TheirsDraw}
use Rattle.lvl_changed.proofs.remains.settled.Goals as goal

pub loop-init : goal.loop-init
loop-init c = record {
  same = λ found l s out. c.in_ok-left.ensures c.args.pair.now l s;
  kept = grows_itself c.args.area.now;
}

pub loop-preserved : goal.loop-preserved
loop-preserved c = record {
  same = λ found.
      same_if_further c.opened.new.area (OursDraw c.args.pair.now c.args.rests) (TheirsDraw c.args.pair.now c.args.rests)
      (OursDraw c.args.pair.now c.loop.left) (TheirsDraw c.args.pair.now c.loop.left) _ _
      (same_if_wider c.loop.area c.opened.new.area (OursDraw c.args.pair.now c.args.rests)
      (TheirsDraw c.args.pair.now c.args.rests) (OursDraw c.args.pair.now c.loop.left)
      (TheirsDraw c.args.pair.now c.loop.left) c.in_ok-left-2.ensures.kept (c.loop.invariant.same found))
      (c.in_ok-left-2.ensures.same found);
  kept =
      grows_further c.args.area.now c.loop.area c.opened.new.area c.loop.invariant.kept c.in_ok-left-2.ensures.kept;
}
