use Rattle.std.proofs.Common.{[]}
use Rattle.std.proofs.lemmas.List.Elements.{All-nil}
use Rattle.std.proofs.lemmas.List.Filters.{dedup_is}
use Rattle.std.specs.Ordering.{int_eq}
use Rattle.lvl_region.proofs.Steps.{places_none, places_step, vertices_step, lines_done}
use Rattle.lvl_region.specs.Grid.{HasVertexAt}
use Rattle.lvl_region.proofs.lines.lines_of.Goals as goal

pub loop-ring-init : goal.loop-ring-init
loop-ring-init c = record {
  through = places_none _ _ c.args.rings.now;
  only = rw c.new-lines.ensures.items (All-nil (HasVertexAt c.args.axis []));
}

pub loop-ring-preserved : goal.loop-ring-preserved
loop-ring-preserved c = record {
  through = places_step _ _ _ c.args.rings.now _ c.ring-item.result c.loop-ring-test.true c.loop-ring.invariant.through
      (rw c.points.ensures.all at c.in_ok-push_places.ensures) c.ring-item.is;
  only = vertices_step _ _ _ c.args.rings.now _ c.ring-item.result c.loop-ring-test.true c.loop-ring.invariant.only
      (rw c.points.ensures.all at c.in_ok-push_places.ensures) c.ring-item.is;
}

pub returns : goal.returns
returns c =
    lines_done _ _ c.sort_unstable.new.self.items _ c.args.rings.now _ c.loop-ring-test.false
    c.loop-ring.invariant.through c.loop-ring.invariant.only
    c.sort_unstable.ensures.permutation c.sort_unstable.ensures.sorted (dedup_is int_eq _ _ c.dedup.ensures.filtered)
