-- What is listed of a file.
use Rattle.std.specs.Prelude.{◌≡◌, List}
use Rattle.lvl_count.specs.Listed.{listed}
use Rattle.lvl.specs.Drawing.{Drawing}
use Rattle.lvl.specs.Layouts.{File, Spells}
use Rattle.lvl.specs.declared.cells.CellList.{CellList}

-- the bytes spell a library with the head, and its cells are listed
pub record IsListedFile (file : File) (list : CellList) : Type 0 where
  pub cells : List Drawing
  pub spelled : Spells file.profile file.bytes cells list.head
  pub listed_are : list.cells.items ≡ listed cells
