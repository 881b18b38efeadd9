-- What is left of lists of rings without those that both have. These definitions serve only the proofs.
use Rattle.std.specs.Prelude.{◌⊎◌, List}
use Rattle.lvl_grid.specs.declared.point.Point.{Point}
use Rattle.lvl_grid.specs.declared.point.Square.{Square}
use Rattle.lvl_grid.specs.Winding.{SomeCovers}

-- what is left covers nothing that the rings don't; what the rings cover, it covers, or others do
pub record IsLeft (rings others left : List (List Point)) : Type 0 where
  pub within : (s : Square) → SomeCovers left s → SomeCovers rings s
  pub all : (s : Square) → SomeCovers rings s → SomeCovers left s ⊎ SomeCovers others s

-- that holds for each of two lists and the other
pub record AreLeft (first second ours theirs : List (List Point)) : Type 0 where
  pub our_left : IsLeft first second ours
  pub their_left : IsLeft second first theirs
