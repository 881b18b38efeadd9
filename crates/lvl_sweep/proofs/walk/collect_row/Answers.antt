use Rattle.std.proofs.Common.{arith, refl}
use Rattle.lvl_sweep.proofs.Walks.{started, ended}
use Rattle.lvl_sweep.proofs.Collects.{at_rest_outside}
use Rattle.lvl_sweep.proofs.walk.collect_row.Goals as goal

pub loop-interval-init : goal.loop-interval-init
loop-interval-init c = record {
  passed = started c.args.active.now c.args.windings.now c.requires.rest;
  parted = refl;
  rings = refl;
  outside = at_rest_outside c.args.windings.now c.requires.rest;
  row = rw c.clear.ensures.items refl;
  few = omega (arith, c.clear.ensures.len);
  capacity = omega (arith, c.clear.ensures.capacity);
}

pub returns-clause-rest : goal.returns-clause-rest
returns-clause-rest c =
    ended c.args.active.now _ c.requires.row.balanced (rw c.in_default.ensures.all at c.in_default.ensures.passed)
