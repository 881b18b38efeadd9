-- The library of a builder so far, as it would be if the input ended there.
use Rattle.std.specs.Prelude.{ℕ, ◌==◌, if◌then◌else◌, List, [], ◌∷◌, ◌++◌}
use Rattle.lvl_cells.specs.Cells.{PlainReference}
use Rattle.lvl_cells.specs.Building.{no_cell}
use Rattle.gds_elements.specs.Types.{bgnstr, strname}
use Rattle.gds_elements.specs.Values.{name}
use Rattle.gds_library.specs.Drawn.{KeptShape, KeptCell}
use Rattle.gds_library.specs.declared.stage.LibraryStage.{LibraryStage}
use Rattle.gds_library.specs.declared.stage.LibraryStage.TheVariants.{Header, BgnLib, LibName, Units, Structures}
use Rattle.gds_library.specs.declared.stage.LibraryStage.TheVariants.{StrName}
use Rattle.gds_library.specs.declared.stage.LibraryStage.TheVariants.{Elements, Fill}
use Rattle.gds_library.specs.declared.builder.Builder.{Builder}
use Rattle.gds_library.specs.declared.head.GdsHead.{GdsHead}

-- the list with its last element changed
abbrev pub on_last : {A : Type 0} → (A → A) → List A → List A
on_last f [] = []
on_last f (x ∷ []) = f x ∷ []
on_last f (x ∷ y ∷ ys) = x ∷ on_last f (y ∷ ys)

-- a cell, and a library, after one more record outside of elements
abbrev pub grown_cell : ℕ → List ℕ → KeptCell → KeptCell
grown_cell k payload c =
    record { name = if k == strname then name payload else c.name; shapes = c.shapes; references = c.references }

abbrev pub grown : ℕ → List ℕ → List KeptCell → List KeptCell
grown k payload cells = if k == bgnstr then cells ++ no_cell ∷ [] else on_last (grown_cell k payload) cells

-- a cell with these shapes and references added
abbrev pub with_drawn : List KeptShape → List PlainReference → KeptCell → KeptCell
with_drawn shapes references c =
    record { name = c.name; shapes = c.shapes ++ shapes; references = c.references ++ references }

-- the cells that are complete
abbrev pub done : Builder → List KeptCell
done b = b.cells.cells

-- what HEADER and UNITS say
abbrev pub head_in : Builder → GdsHead
head_in b = record { version = b.version; units = b.units }

-- the cell that isn't complete yet
abbrev pub open_cell : Builder → KeptCell
open_cell b = b.cells.current

-- the library so far, with the incomplete cell if there is one
abbrev pub shown_at : LibraryStage → Builder → List KeptCell
shown_at Header b = done b
shown_at BgnLib b = done b
shown_at LibName b = done b
shown_at Units b = done b
shown_at Structures b = done b
shown_at StrName b = done b ++ no_cell ∷ []
shown_at Elements b = done b ++ open_cell b ∷ []
shown_at Fill b = done b

abbrev pub shown : Builder → List KeptCell
shown b = shown_at b.stage b
