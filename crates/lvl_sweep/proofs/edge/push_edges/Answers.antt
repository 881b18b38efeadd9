use Rattle.std.proofs.Common.{◌≡◌, drop, [], arith, refl, eqb, true}
use Rattle.std.proofs.lemmas.Grind.{common_steps}
use Rattle.lvl_grid.specs.Winding.{goes_up, goes_down}
use Rattle.lvl_grid.proofs.Paths.{origin, edges_from_last}
use Rattle.lvl_sweep.specs.Bands.{is_vertical}
use Rattle.lvl_sweep.specs.inside.Alive.{any_edge, rises, falls}
use Rattle.lvl_sweep.proofs.Spans.{edges_step, nothing_left}
use Rattle.lvl_sweep.proofs.edge.push_edges.Goals as goal

pub loop-point-init : goal.loop-point-init
loop-point-init c = record {
  rising = λ r s. rw (edges_from_last c.args.points.now origin c.requires) refl;
  falling = λ r s. rw (edges_from_last c.args.points.now origin c.requires) refl;
  many = rw (edges_from_last c.args.points.now origin c.requires) refl;
  numbers = λ n lt h. h;
  full = λ h. h;
}

pub loop-point-preserved : goal.loop-point-preserved
loop-point-preserved c = record {
  rising = λ r s. edges_step (rises r s) (goes_up s) c.loop-point.edges.items c.push_edge.new.edges.items
      c.loop-point.previous c.args.points.now c.loop-point.point-index origin (eqb c.args.ring r) _
      c.loop-point-test.true (c.in_ok-push_edge.ensures.rising r s) (c.loop-point.invariant.rising r s);
  falling = λ r s. edges_step (falls r s) (goes_down s) c.loop-point.edges.items c.push_edge.new.edges.items
      c.loop-point.previous c.args.points.now c.loop-point.point-index origin (eqb c.args.ring r) _
      c.loop-point-test.true (c.in_ok-push_edge.ensures.falling r s) (c.loop-point.invariant.falling r s);
  many = edges_step any_edge is_vertical c.loop-point.edges.items c.push_edge.new.edges.items
      c.loop-point.previous c.args.points.now c.loop-point.point-index origin true _
      c.loop-point-test.true c.in_ok-push_edge.ensures.many c.loop-point.invariant.many;
  numbers = λ n lt h. c.in_ok-push_edge.ensures.numbers n lt (c.loop-point.invariant.numbers n lt h);
  full = λ h. c.in_ok-push_edge.ensures.full (c.loop-point.invariant.full h);
}

pub returns-clause-rising : goal.returns-clause-rising
returns-clause-rising c =
    let rest : drop c.loop-point.point-index c.args.points.now ≡ [] = grind (arith, common_steps) in
    λ r s. nothing_left _ _ (eqb c.args.ring r) (rw rest at (c.loop-point.invariant.rising r s))

pub returns-clause-falling : goal.returns-clause-falling
returns-clause-falling c =
    let rest : drop c.loop-point.point-index c.args.points.now ≡ [] = grind (arith, common_steps) in
    λ r s. nothing_left _ _ (eqb c.args.ring r) (rw rest at (c.loop-point.invariant.falling r s))

pub returns-clause-many : goal.returns-clause-many
returns-clause-many c =
    let rest : drop c.loop-point.point-index c.args.points.now ≡ [] = grind (arith, common_steps) in
    nothing_left _ _ true (rw rest at c.loop-point.invariant.many)
