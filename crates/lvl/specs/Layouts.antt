-- What files spell, in either format.
use Rattle.std.specs.Prelude.{◌≡◌, ℕ, List, [], ◌∷◌, Option, Some, None}
use Rattle.lvl_profile.specs.declared.profile.Profile.{Profile}
use Rattle.lvl_path.specs.Figure.{figure_rings}
use Rattle.lvl_cells.specs.Cells.{PlainCell, Rings, kept}
use Rattle.lvl.specs.Drawing.{Drawing}
use Rattle.gds_library.specs.Front.{SpellsLibrary as SpellsGds}
use Rattle.oasis_library.specs.Library.{SpellsLibrary as SpellsOasis}
use Rattle.lvl.specs.declared.layout.Head.{Head}
use Rattle.lvl.specs.declared.layout.Head.TheVariants.{Gds, Oasis}

-- the bytes of a file, its profile, and the name of its top if one is given
pub record File : Type 0 where
  pub profile : Profile
  pub bytes : List ℕ
  pub top : Option (List ℕ)

-- the bytes spell the cells and the head, in the format of the head
abbrev pub Spells : Profile → List ℕ → List Drawing → Head → Type 0
Spells profile bytes cells (Gds h) = SpellsGds profile bytes cells h
Spells profile bytes cells (Oasis h) = SpellsOasis profile bytes cells h

-- the bytes begin with that byte
pub record BeginsWith (byte : ℕ) (bytes : List ℕ) : Type 0 where
  pub rest : List ℕ
  pub is : bytes ≡ byte ∷ rest

-- the first byte, or that there is none
abbrev pub HasFirst : Option ℕ → List ℕ → Type 0
HasFirst None bytes = bytes ≡ []
HasFirst (Some byte) bytes = BeginsWith byte bytes

-- a file is read as OASIS if it begins with the first byte of the magic string, otherwise as GDSII (own rule)
abbrev pub IsOasis : List ℕ → Type 0
IsOasis bytes = BeginsWith 0x25 bytes

-- the bytes spell some library
abbrev pub SpellsSome : Profile → List ℕ → Type 0
SpellsSome profile bytes = (cells : List Drawing) × (head : Head) × Spells profile bytes cells head

-- the bytes spell a library with that head
abbrev pub HasHead : Profile → List ℕ → Head → Type 0
HasHead profile bytes head = (cells : List Drawing) × Spells profile bytes cells head

-- the bytes spell exactly one library and one head; what was found is that head, and that library with its figures as
-- rings
pub record IsLayoutOf (profile : Profile) (bytes : List ℕ) (found : List (PlainCell Rings)) (head : Head) : Type 0 where
  pub cells : List Drawing
  pub spelled : Spells profile bytes cells head
  pub kept_as : found ≡ kept figure_rings cells
  pub alone : (others : List Drawing) (h : Head) → Spells profile bytes others h
      → (found ≡ kept figure_rings others) × (head ≡ h)
