use Rattle.std.proofs.Common.{arith, refl}
use Rattle.lvl_flat.proofs.Runs.{run_shorter}
use Rattle.lvl_flat.proofs.missed.missed_rows.Goals as goal

pub misses_rows-requires-clause-run : goal.misses_rows-requires-clause-run
misses_rows-requires-clause-run c =
    run_shorter c.args.shifts.now c.args.from c.args.row c.args.count 1 c.requires.run
    (omega (arith, c.if-count-eq0.false))

pub misses_rows-requires-in-loop-high-clause-run : goal.misses_rows-requires-in-loop-high-clause-run
misses_rows-requires-in-loop-high-clause-run c =
    run_shorter c.args.shifts.now c.args.from c.args.row c.args.count _ c.requires.run
    (omega (arith, c.loop-high.invariant.inside, c.loop-high.invariant.order))

pub loop-high-init : goal.loop-high-init
loop-high-init c = record {
  some = omega arith;
  order = omega (arith, c.if-count-eq0.false);
  inside = omega arith;
  missed = c.if-not-misses_rows.ensures refl;
}
