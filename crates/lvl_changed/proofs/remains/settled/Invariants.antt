use Rattle.lvl_changed.specs.inside.Areas.{Grows}
use Rattle.lvl_changed.specs.inside.Pairs.{AreFoundIn}
use Rattle.lvl_changed.specs.inside.Remains.{AreSameIf, OursDraw, TheirsDraw}
use Rattle.lvl_changed.proofs.remains.settled.Given as goal

-- where what is left is the same, all is
abbrev pub invariant-loop : goal.invariant-loop
invariant-loop l = record {
  same : AreFoundIn l.pair l.known → AreSameIf l.area (OursDraw l.pair l.fn.rests) (TheirsDraw l.pair l.fn.rests)
      (OursDraw l.pair l.left) (TheirsDraw l.pair l.left);
  kept : Grows l.initial.area l.area;
}
