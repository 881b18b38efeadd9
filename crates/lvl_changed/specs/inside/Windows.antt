-- Windows and their squares.
use Rattle.std.specs.Prelude.{◌⊎◌, IsTrue}
use Rattle.lvl_grid.specs.declared.point.Square.{Square}
use Rattle.lvl_grid.specs.declared.map.Map.{Map}
use Rattle.lvl_grid.specs.Turn.{image_square}
use Rattle.lvl_compare.specs.Parts.{SomeHas}
use Rattle.lvl_changed.specs.declared.windows.Windows.{Windows}

-- the windows are the whole grid, or one of them has the square
abbrev pub Has : Windows → Square → Type 0
Has w s = IsTrue w.anywhere ⊎ SomeHas w.list.items s

-- `to` has each square of `from`
pub record Widens (from to : Windows) : Type 0 where
  pub has : (s : Square) → Has from s → Has to s

-- the windows `all` have the images of all squares of the windows `held`
pub record HasPlaced (m : Map) (held all : Windows) : Type 0 where
  pub has : (s : Square) → Has held s → Has all (image_square m s)
