-- What the bytes of a file spell (SEMI P39 OASIS 1.0, "CELL record", "CELLNAME record").
use Rattle.std.specs.Prelude.{◌≡◌, ℕ, List}
use Rattle.lvl_grammar.specs.Front.{SpellsWhole}
use Rattle.lvl_path.specs.Figure.{Figure, figure_rings}
use Rattle.lvl_cells.specs.Cells.{PlainCell, Rings, kept}
use Rattle.lvl_profile.specs.declared.profile.Profile.{Profile}
use Rattle.oasis_stream.specs.Front.{oasis}
use Rattle.oasis_stream.specs.Items.{Item, records}
use Rattle.oasis_stream.specs.Order.{names_in}
use Rattle.oasis_library.specs.Cells.{drawings}
use Rattle.oasis_library.specs.Head.{head_of}
use Rattle.oasis_library.specs.Names.{AreCells}
use Rattle.oasis_library.specs.declared.head.OasisHead.{OasisHead}

-- the bytes are a whole file; the cells are those that its records draw, with numbers replaced by the names in its
-- CELLNAME records; and the head is what its START and END say
pub record SpellsLibrary (profile : Profile) (bytes : List ℕ) (cells : List (PlainCell Figure)) (h : OasisHead) : Type 0
  where
    pub items : List Item
    pub whole : SpellsWhole (oasis profile) bytes items
    pub cells_are : AreCells (names_in (records items)) (drawings (records items)) cells
    pub head_is : h ≡ head_of (records items)

-- the bytes spell no library
abbrev pub SpellsNone : Profile → List ℕ → Type 0
SpellsNone profile xs = (cells : List (PlainCell Figure)) (h : OasisHead) → SpellsLibrary profile xs cells h → ⊥

-- the bytes spell exactly one library and one head; what was found is that head, and that library with its figures as
-- rings
pub record IsRead (profile : Profile) (xs : List ℕ) (found : List (PlainCell Rings)) (h : OasisHead) : Type 0 where
  pub cells : List (PlainCell Figure)
  pub spelled : SpellsLibrary profile xs cells h
  pub only : (others : List (PlainCell Figure)) (g : OasisHead) → SpellsLibrary profile xs others g
      → (others ≡ cells) × (g ≡ h)
  pub kept_as : found ≡ kept figure_rings cells
