use Rattle.lvl_sweep.proofs.Settles.{settled}
use Rattle.lvl_sweep.proofs.Counts.{few_bands, few_intervals}
use Rattle.lvl_sweep.proofs.sweep.Sweep.new.Goals as goal

pub returns-clause-bands : goal.returns-clause-bands
returns-clause-bands g c =
    settled (g.R.RingList.rings c.args.rings.now) c.collect.new.self c.settle-is_held.new.strips
    c.settle-is_held.new.band c.settle-is_held.result c.collect.ensures.at
    (rw c.collect.ensures.edges c.in_ok-strips.ensures.edges)
    (rw (c.collect.ensures.edges, c.collect.ensures.here) c.in_ok-strips.ensures.lowest)
    c.settle-is_held.ensures.next c.settle-is_held.ensures.none

pub returns-clause-few_bands : goal.returns-clause-few_bands
returns-clause-few_bands g c =
    few_bands (g.R.RingList.rings c.args.rings.now) _ (settled (g.R.RingList.rings c.args.rings.now)
    c.collect.new.self c.settle-is_held.new.strips c.settle-is_held.new.band c.settle-is_held.result
    c.collect.ensures.at (rw c.collect.ensures.edges c.in_ok-strips.ensures.edges)
    (rw (c.collect.ensures.edges, c.collect.ensures.here) c.in_ok-strips.ensures.lowest)
    c.settle-is_held.ensures.next c.settle-is_held.ensures.none)

pub returns-clause-few_intervals : goal.returns-clause-few_intervals
returns-clause-few_intervals g c =
    few_intervals (g.R.RingList.rings c.args.rings.now) _ (settled (g.R.RingList.rings c.args.rings.now)
    c.collect.new.self c.settle-is_held.new.strips c.settle-is_held.new.band c.settle-is_held.result
    c.collect.ensures.at (rw c.collect.ensures.edges c.in_ok-strips.ensures.edges)
    (rw (c.collect.ensures.edges, c.collect.ensures.here) c.in_ok-strips.ensures.lowest)
    c.settle-is_held.ensures.next c.settle-is_held.ensures.none)
