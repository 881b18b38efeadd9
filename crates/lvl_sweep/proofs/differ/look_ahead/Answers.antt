use Rattle.lvl_sweep.specs.Bands.{slab_of}
use Rattle.lvl_sweep.proofs.Aheads.{reported_both, reported_first, reported_second, met_first}
use Rattle.lvl_sweep.proofs.differ.look_ahead.Goals as goal

pub returns-in-Some-Some : goal.returns-in-Some-Some
returns-in-Some-Some g c =
    reported_both c.args.from _ _ _ _ (slab_of c.in-Some-Some.p.now) (slab_of c.in-Some-Some.q.now) c.both.result
    c.in-Some-Some.ensures.first c.in-Some-Some.ensures'.first c.requires.ours c.requires.theirs c.both.ensures

pub returns-in-Some-None : goal.returns-in-Some-None
returns-in-Some-None g c =
    reported_first c.args.from _ _ _ (slab_of c.in-Some-None.p.now) c.least_square.result c.in-Some-None.ensures.first
    c.in-Some-None.ensures'.none c.requires.ours (met_first c.args.from _ _ (slab_of c.in-Some-None.p.now)
    c.in-Some-None.ensures.first c.requires.our_band) c.least_square.ensures.x c.least_square.ensures.y

pub returns-in-None-Some : goal.returns-in-None-Some
returns-in-None-Some g c =
    reported_second c.args.from _ _ _ (slab_of c.in-None-Some.q.now) c.least_square-in-None-Some.result
    c.in-None-Some.ensures.none c.in-None-Some.ensures'.first c.requires.theirs
    (met_first c.args.from _ _ (slab_of c.in-None-Some.q.now) c.in-None-Some.ensures'.first c.requires.their_band)
    c.least_square-in-None-Some.ensures.x c.least_square-in-None-Some.ensures.y
