-- What a walk draws.
use Rattle.std.specs.Prelude.{List, Contains}
use Rattle.lvl_grid.specs.declared.point.Square.{Square}
use Rattle.lvl_grid.specs.Clip.{IsInWindow}
use Rattle.lvl_names.specs.declared.layer.Layer.{Layer}
use Rattle.lvl_flat.specs.declared.scope.Scope.{Scope}
use Rattle.lvl_flat.specs.declared.scope.Scope.TheVariants.{Everything, Within}

-- the scope has the square
abbrev pub IsInScope : Scope → Square → Type 0
IsInScope Everything q = Unit {0}
IsInScope (Within w) q = IsInWindow w q

-- the Layer is in the list, and the square in the scope
abbrev pub IsOfScope : List Layer → Scope → Layer → Square → Type 0
IsOfScope layers scope layer q = Contains layers layer × IsInScope scope q
