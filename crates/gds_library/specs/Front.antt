-- GDSII as a format of streams of records (GDSII Stream Format Manual, Release 6, "Stream syntax"), and what its files
-- spell.
use Rattle.std.specs.Prelude.{◌≡◌, ℕ, List}
use Rattle.lvl_profile.specs.declared.profile.Profile.{Profile}
use Rattle.lvl_grammar.specs.Grammar.{Grammar}
use Rattle.lvl_grammar.specs.Front.{SpellsWhole}
use Rattle.lvl_path.specs.Figure.{figure_rings}
use Rattle.lvl_cells.specs.Cells.{kept}
use Rattle.gds_elements.specs.Rec.{Rec}
use Rattle.gds_library.specs.Rec.{Spells}
use Rattle.gds_library.specs.Ignoring.{essential, IsWholeBy, MayFollowBy}
use Rattle.gds_library.specs.Drawn.{Drawing, KeptCell}
use Rattle.gds_library.specs.Values.{drawings, head}
use Rattle.gds_library.specs.declared.head.GdsHead.{GdsHead}

-- GDSII as a format, with some records ignored: a file is whole from its ENDLIB on, and each zero byte after that
-- counts as a record
abbrev pub gds : Profile → Grammar Rec
gds profile = record {
  spells = λ before bytes r. Spells profile bytes r;
  follows = MayFollowBy profile;
  ends = IsWholeBy profile;
  limit = profile.limits.file;
}

-- the bytes are a whole file, and this library and this head are what its records mean without those that are ignored
pub record SpellsLibrary (profile : Profile) (bytes : List ℕ) (cells : List Drawing) (h : GdsHead) : Type 0 where
  pub records : List Rec
  pub whole : SpellsWhole (gds profile) bytes records
  pub cells_are : cells ≡ drawings (essential profile records)
  pub head_is : h ≡ head (essential profile records)

-- the bytes spell no library
abbrev pub SpellsNone : Profile → List ℕ → Type 0
SpellsNone profile xs = (cells : List Drawing) (h : GdsHead) → SpellsLibrary profile xs cells h → ⊥

-- the bytes spell exactly one library and one head; what was found is that head, and that library with its figures as
-- rings
pub record IsRead (profile : Profile) (xs : List ℕ) (found : List KeptCell) (h : GdsHead) : Type 0 where
  pub cells : List Drawing
  pub spelled : SpellsLibrary profile xs cells h
  pub only : (others : List Drawing) (g : GdsHead) → SpellsLibrary profile xs others g → (others ≡ cells) × (g ≡ h)
  pub kept_as : found ≡ kept figure_rings cells
