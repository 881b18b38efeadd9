use Rattle.std.proofs.Common.{w64, FitsSigned, rules, pos, false, get_or, refl}
use Rattle.std.proofs.lemmas.Int.{to_z-of_z}
use Rattle.lvl_sweep.specs.declared.edge.Edge.{Edge}
use Rattle.lvl_sweep.proofs.Walks.{look_more, turned, never, wanted_is, wanted_is_not}
use Rattle.lvl_sweep.proofs.walk.pass_until.Goals as goal

abbrev nothing : Edge
nothing = record { low = pos 0; x = pos 0; ring = 0; high = pos 0; up = false }

pub returns-then-windings-wanted-clause-parted : goal.returns-then-windings-wanted-clause-parted
returns-then-windings-wanted-clause-parted c =
    let fits : FitsSigned w64 (get_or c.args.active.now c.loop-position.position.at nothing).x = search rules in
    rw (to_z-of_z w64 _ fits) (c.pass_abscissa-at.ensures.parted nothing)

pub returns-then-windings-wanted-clause-turned : goal.returns-then-windings-wanted-clause-turned
returns-then-windings-wanted-clause-turned c =
    let fits : FitsSigned w64 (get_or c.args.active.now c.loop-position.position.at nothing).x = search rules in
    rw (to_z-of_z w64 _ fits) (turned c.args.active.now c.args.wanted c.args.position.now c.loop-position.position
    c.args.windings.now c.loop-position.windings c.pass_abscissa-at.new.windings c.pass_abscissa-at.result _ nothing
    c.requires.row c.requires.parted c.loop-position.invariant c.loop-position-test.true refl
    c.pass_abscissa-at.ensures.on (wanted_is _ _ c.if-windings-wanted.true))

pub loop-position-preserved : goal.loop-position-preserved
loop-position-preserved c =
    let fits : FitsSigned w64 (get_or c.args.active.now c.loop-position.position.at nothing).x = search rules in
    rw (to_z-of_z w64 _ fits) (look_more c.args.active.now c.args.wanted c.args.position.now c.loop-position.position
    c.args.windings.now c.loop-position.windings c.pass_abscissa-at.new.windings c.pass_abscissa-at.result _ nothing
    c.requires.row c.loop-position.invariant c.loop-position-test.true refl c.pass_abscissa-at.ensures.passed
    (c.pass_abscissa-at.ensures.parted nothing) c.pass_abscissa-at.ensures.on c.pass_abscissa-at.ensures.rings
    (wanted_is_not _ _ c.if-windings-wanted.false))

pub returns-clause-never : goal.returns-clause-never
returns-clause-never c =
    never c.args.active.now c.args.wanted c.args.position.now c.loop-position.position c.args.windings.now
    c.loop-position.windings
    c.requires.row c.loop-position.invariant c.loop-position-test.false
