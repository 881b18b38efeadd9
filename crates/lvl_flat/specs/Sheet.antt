-- A sheet: the rings of one Layer.
use Rattle.lvl_names.specs.declared.layer.Layer.{Layer}
use Rattle.lvl_cells.specs.Cells.{Rings}

pub record PlainSheet : Type 0 where
  pub layer : Layer
  pub rings : Rings
