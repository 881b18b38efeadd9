use Rattle.std.proofs.Common.{◌≡◌, ◌+◌, ℤ, Option}
use Rattle.std.specs.List.Sorted.{IsPermutation}
use Rattle.lvl_sweep.specs.inside.Runs.{IsMerging, IsSameFrom, IsEndOf}
use Rattle.lvl_sweep.proofs.merge.Merge.run.Given as goal

abbrev pub invariant-loop-self : goal.invariant-loop-self
invariant-loop-self l = record {
  merging : IsMerging l.edges l.y l.self;
  permutation : IsPermutation l.fn.edges l.edges;
  later : IsSameFrom l.fn.edges l.edges l.fn.self.end;
  end : l.self.end ≡ l.fn.self.end;
  top : (b : Option ℤ) → IsEndOf l.fn.edges l.fn.self.first l.fn.self.end b l.fn.self.top
      → IsEndOf l.edges l.self.first l.fn.self.end b l.self.top;
}

abbrev pub decreases-loop-self : goal.decreases-loop-self
decreases-loop-self l = l.self.fresh + l.self.alive
