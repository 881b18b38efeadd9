-- What of two tops may cover squares of a window.
use Rattle.lvl_grid.specs.declared.point.Window.{Window}
use Rattle.lvl_flat.specs.Candidates.{AreCandidates}
use Rattle.lvl_compare.specs.declared.lists.Lists.{Lists}
use Rattle.lvl_compare.specs.declared.pair.Pair.{Pair}

-- the lists are candidates of both tops for the window
pub record AreBoth (pair : Pair) (window : Window) (lists : Lists) : Type 0 where
  pub ours : AreCandidates pair.first.now window lists.ours
  pub theirs : AreCandidates pair.second.now window lists.theirs
