use Rattle.std.proofs.Common.{drop, sym, arith}
use Rattle.lvl_compare.proofs.After.{drop_after, after_other, past_all}
use Rattle.lvl_compare.proofs.flats.past.Goals as goal
use Rattle.lvl_compare.proofs.flats.past.Goals.{else-index-len-via-then-index-len+else-is_at}
use Rattle.lvl_compare.proofs.flats.past.Goals.{else-index-len-via-else-index-len}

pub returns-then-is_at : goal.returns-then-is_at
returns-then-is_at c =
    drop_after c.args.flat.now c.args.index c.args.layer (c.is_at.ensures.0 c.if-is_at.true)

pub returns-else-index-len : goal.returns-else-index-len
returns-else-index-len c = elim c.else-index-len.branch [
  | else-index-len-via-then-index-len+else-is_at w ↦
      sym (after_other (drop c.args.index c.args.flat.now) c.args.layer
      (λ e. let no = w.is_at.ensures.1 e in cc (w.if-is_at.false)))
  | else-index-len-via-else-index-len w ↦
      past_all c.args.flat.now c.args.index c.args.layer (omega (arith, c.len.ensures, w.if-index-len.false))
]
