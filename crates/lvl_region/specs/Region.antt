-- What rings cover together (own rule: they never cancel), and where two sets of squares differ.
use Rattle.lvl_grid.specs.declared.point.Square.{Square}
pub use Rattle.lvl_grid.specs.Winding.{SomeCovers}
use Rattle.lvl_region.specs.declared.region.Side.{Side}
use Rattle.lvl_region.specs.declared.region.Side.TheVariants.{First, Second}

-- the square is in only one of two sets, that of the side: P is the set of First, Q that of Second
abbrev pub IsAlone : (Square → Type 0) → (Square → Type 0) → Square → Side → Type 0
IsAlone P Q s First = P s × (¬ Q s)
IsAlone P Q s Second = Q s × (¬ P s)
