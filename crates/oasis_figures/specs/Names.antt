-- The names of modal variables (SEMI P39, "Modal variables").
use Rattle.std.specs.Prelude.{ℕ, List, codes}
use Rattle.oasis_figures.specs.declared.variable.Variable.{Variable}
use Rattle.oasis_figures.specs.declared.variable.Variable.TheVariants.{PlacementCell, Layer, Datatype}
use Rattle.oasis_figures.specs.declared.variable.Variable.TheVariants.{GeometryW, GeometryH}
use Rattle.oasis_figures.specs.declared.variable.Variable.TheVariants.{PolygonPointList, PathHalfWidth, PathPointList}
use Rattle.oasis_figures.specs.declared.variable.Variable.TheVariants.{PathStartExtension, PathEndExtension, Repetition}

-- the name of a modal variable
abbrev pub variable_name : Variable → List ℕ
variable_name PlacementCell = codes "placement-cell"
variable_name Layer = codes "layer"
variable_name Datatype = codes "datatype"
variable_name GeometryW = codes "geometry-w"
variable_name GeometryH = codes "geometry-h"
variable_name PolygonPointList = codes "polygon-point-list"
variable_name PathHalfWidth = codes "path-halfwidth"
variable_name PathPointList = codes "path-point-list"
variable_name PathStartExtension = codes "path-start-extension"
variable_name PathEndExtension = codes "path-end-extension"
variable_name Repetition = codes "repetition"
