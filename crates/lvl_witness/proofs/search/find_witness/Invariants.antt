use Rattle.lvl_witness.specs.inside.Known.{AreEmpty}
use Rattle.lvl_witness.specs.inside.Searching.{IsSearch, work_left}
use Rattle.lvl_witness.proofs.search.find_witness.Given as goal

-- none of what the top covers is lost, and what is known to be empty is
abbrev pub invariant-loop-frame : goal.invariant-loop-frame
invariant-loop-frame l = record {
  search : IsSearch l.fitted l.layers l.square l.search.frames.items l.search.steps.items;
  known : AreEmpty l.fitted.cells l.layers l.search.known;
}

-- fewer moves are left after each
abbrev pub decreases-loop-frame : goal.decreases-loop-frame
decreases-loop-frame l = work_left l.fitted.cells l.search.frames.items
