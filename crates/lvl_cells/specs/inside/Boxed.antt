-- Lists that take little memory if they have no item, or one.
use Rattle.std.specs.Prelude.{List, [], ◌∷◌}
use Rattle.lvl_cells.specs.Cells.{PlainReference, PlainShape, Rings}
use Rattle.lvl_cells.specs.declared.references.Stored.{Stored}
use Rattle.lvl_cells.specs.declared.references.Stored.TheVariants.{None as NoReference, One, Several}
use Rattle.lvl_cells.specs.declared.shapes.StoredShapes.{StoredShapes}
use Rattle.lvl_cells.specs.declared.shapes.StoredShapes.TheVariants.{None as NoShape, One as OneShape}
use Rattle.lvl_cells.specs.declared.shapes.StoredShapes.TheVariants.{Few as FewShapes, Several as SeveralShapes}

-- the shapes that are stored so
abbrev pub stored_shapes : StoredShapes → List (PlainShape Rings)
stored_shapes NoShape = []
stored_shapes (OneShape b) = b.value ∷ []
stored_shapes (FewShapes b) = b.value
stored_shapes (SeveralShapes b) = b.value

-- the references that are stored so
abbrev pub stored_list : Stored → List PlainReference
stored_list NoReference = []
stored_list (One b) = b.value ∷ []
stored_list (Several b) = b.value
