use Rattle.std.proofs.Common.{◌-◌, arith}
use Rattle.lvl_flat.proofs.Runs.{run_missed, wider_ends}
use Rattle.lvl_flat.proofs.missed.misses_rows.Goals as goal

pub returns : goal.returns
returns c = λ t.
    run_missed c.args.shifts.now c.args.from c.args.row (c.args.count - 1) c.args.count c.args.inner c.joined.result
    c.args.map.now c.args.window.now (omega (arith, c.requires.some)) c.requires.run
    (wider_ends c.args.shifts.now c.in-Some.first c.joined.result c.args.from c.args.row c.joined.ensures.first
    c.in-Some.ensures)
    (wider_ends c.args.shifts.now c.in-Some-bounds_of_ends.last c.joined.result _ c.args.row c.joined.ensures.second
    c.in-Some-bounds_of_ends.ensures)
    (c.misses_moved.ensures t)
