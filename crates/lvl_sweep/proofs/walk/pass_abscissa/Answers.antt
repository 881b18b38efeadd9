use Rattle.std.proofs.Common.{w64, FitsSigned, pos, false, rules, get_or, ◌∙◌, arith, ap}
use Rattle.std.proofs.lemmas.Int.{to_z-of_z}
use Rattle.lvl_sweep.specs.declared.edge.Edge.{Edge}
use Rattle.lvl_sweep.proofs.Winds.{small_count}
use Rattle.lvl_sweep.proofs.Walks.{passed_more, as_many, numbers_of, same_more, parted, item_same}
use Rattle.lvl_sweep.proofs.walk.pass_abscissa.Goals as goal

abbrev nothing : Edge
nothing = record { low = pos 0; x = pos 0; ring = 0; high = pos 0; up = false }

pub pass-requires-clause-small : goal.pass-requires-clause-small
pass-requires-clause-small c =
    small_count c.args.active.now c.loop-windings.next _ _ (c.stands_at.ensures.within c.loop-windings-test.true)
    c.requires.row.few (c.loop-windings.invariant.passed.counts _ (search rules))

pub loop-windings-preserved : goal.loop-windings-preserved
loop-windings-preserved c =
    let fits : FitsSigned w64 (get_or c.args.active.now c.args.at nothing).x = search rules in
    record {
      passed = passed_more c.args.active.now c.loop-windings.next nothing c.loop-windings.windings c.pass.new.self
          (c.stands_at.ensures.within c.loop-windings-test.true)
          (numbers_of c.args.active.now _ _ c.loop-windings.invariant.rings c.requires.row.numbers)
          c.loop-windings.invariant.passed c.pass.ensures.counts c.pass.ensures.turning;
      rings = as_many _ _ _ _ c.pass.ensures.counts ∙ c.loop-windings.invariant.rings;
      from = omega (arith, c.loop-windings.invariant.from);
      same = rw (to_z-of_z w64 _ fits) (same_more c.args.active.now c.args.at c.loop-windings.next
          (get_or c.args.active.now c.args.at nothing).x (rw (to_z-of_z w64 _ fits) at c.loop-windings.invariant.same)
          (rw (to_z-of_z w64 _ fits) at (c.stands_at.ensures.here c.loop-windings-test.true)));
    }

pub returns-clause-parted : goal.returns-clause-parted
returns-clause-parted c d =
    let fits : FitsSigned w64 (get_or c.args.active.now c.args.at nothing).x = search rules in
    let there = parted c.args.active.now c.args.at c.loop-windings.next (get_or c.args.active.now c.args.at nothing).x
    c.requires.left c.loop-windings.invariant.from c.loop-windings.invariant.passed.within c.requires.row.rising
    (λ e. ap (λ (q : Edge). q.x) (item_same c.args.active.now c.args.at e nothing c.requires.left))
    (rw (to_z-of_z w64 _ fits) at c.loop-windings.invariant.same)
    (rw (to_z-of_z w64 _ fits) at (c.stands_at.ensures.elsewhere c.loop-windings-test.false)) in
    rw (item_same c.args.active.now c.args.at d nothing c.requires.left) there.1
