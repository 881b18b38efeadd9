use Rattle.std.proofs.Common.{◌≡◌, take, count_by}
use Rattle.lvl_sweep.specs.Bands.{is_vertical, all_edges}
use Rattle.lvl_sweep.specs.inside.Alive.{any_edge, AreEdgesOf}
use Rattle.lvl_sweep.proofs.edge.edges_of.Given as goal

abbrev pub invariant-loop-number : goal.invariant-loop-number
invariant-loop-number g l = record {
  edges : AreEdgesOf (take l.number (g.R.RingList.rings l.rings)) l.edges.items;
  many : count_by any_edge l.edges.items
      ≡ count_by is_vertical (all_edges (take l.number (g.R.RingList.rings l.rings)));
}
