use Rattle.std.proofs.Common.{refl}
use Rattle.lvl_flat.proofs.Cutting.{outside_adds, inside_adds, placed_ring_fits}
use Rattle.lvl_flat.proofs.within.draw_ring_at.Goals as goal

pub returns-then-misses-clause-covers : goal.returns-then-misses-clause-covers
returns-then-misses-clause-covers c =
    outside_adds c.args.map.now c.args.shift c.args.window.now c.args.bounds c.in-Some.placed c.args.ring.now
    c.args.rings.now c.in-Some.ensures.held c.requires.bounds (c.if-misses.ensures refl)

pub returns-then-misses-clause-fits : goal.returns-then-misses-clause-fits
returns-then-misses-clause-fits c =
    placed_ring_fits c.args.map.now c.args.shift c.args.bounds c.in-Some.placed c.args.ring.now c.in-Some.ensures.fits
    c.in-Some.ensures.held c.requires.bounds

pub returns-then-is_inside-clause-covers : goal.returns-then-is_inside-clause-covers
returns-then-is_inside-clause-covers c =
    inside_adds c.args.map.now c.args.shift c.args.window.now c.args.bounds c.in-Some.placed c.args.ring.now
    c.args.rings.now c.push_placed.new.rings c.in-Some.ensures.held c.requires.bounds (c.if-is_inside.ensures refl)
    c.in_ok-push_placed.ensures.ok c.in_ok-push_placed.ensures.covers

pub returns-then-is_some-clause-fits : goal.returns-then-is_some-clause-fits
returns-then-is_some-clause-fits c =
    placed_ring_fits c.args.map.now c.args.shift c.args.bounds c.in-Some.placed c.args.ring.now c.in-Some.ensures.fits
    c.in-Some.ensures.held c.requires.bounds
