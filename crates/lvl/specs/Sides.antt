-- What the steps for one side return.
use Rattle.std.specs.Prelude.{◌≡◌, ⊤, ℕ, List, Option, option_map, Vec}
use Rattle.std.specs.Global.{Global}
use Rattle.lvl_profile.specs.declared.limits.Limits.{Limits}
use Rattle.lvl_profile.specs.declared.profile.Profile.{Profile}
use Rattle.lvl_cells.specs.Cells.{PlainCell, Rings}
use Rattle.lvl_cells.specs.Checks.{Settled}
use Rattle.lvl_flat.specs.Flattened.{IsFlatFault}
use Rattle.lvl.specs.Drawing.{Drawing}
use Rattle.lvl_region.specs.declared.region.Side.{Side}
use Rattle.lvl.specs.declared.layout.Head.{Head}
use Rattle.lvl.specs.declared.layout.Head.TheVariants.{Gds as GdsHeadOf, Oasis as OasisHeadOf}
use Rattle.lvl.specs.declared.layout.Layout.{Layout}
use Rattle.lvl.specs.declared.layout.Layout.TheVariants.{Gds as GdsLayout, Oasis as OasisLayout}
use Rattle.lvl.specs.declared.layout.FileFault.{FileFault}
use Rattle.lvl.specs.declared.verdict.Refusal.{Refusal}
use Rattle.lvl.specs.declared.verdict.Refusal.TheVariants.{File as FileRefusal, Cells as CellsRefusal}
use Rattle.lvl.specs.declared.verdict.Refusal.TheVariants.{Flat as FlatRefusal, OutOfMemory}
use Rattle.lvl.specs.Layouts.{File, Spells}
use Rattle.lvl.specs.Kept.{Kept, IsCellFault}
use Rattle.lvl.specs.Answers.{ReportsOfFile, IsExcusedFile}

-- the library and the head of a layout
abbrev pub layout_parts : Layout → List (PlainCell Rings) × Head
layout_parts (GdsLayout library h) = (library, GdsHeadOf h)
layout_parts (OasisLayout library h) = (library, OasisHeadOf h)

-- the bytes spell no library
abbrev pub SpellsNothing : Profile → List ℕ → Type 0
SpellsNothing profile xs = (cells : List Drawing) (head : Head) → Spells profile xs cells head → ⊥

-- the fault is true, and unless it is a failed read the bytes spell no library
pub record IsFileFault (profile : Profile) (xs : List ℕ) (fault : FileFault) : Type 0 where
  pub reported : ReportsOfFile profile xs fault
  pub nothing : (¬ IsExcusedFile fault) → SpellsNothing profile xs

-- the refusal is that this side's file wasn't read, or out of memory
abbrev pub IsOfFile : Side → Refusal → Type 0
IsOfFile side (FileRefusal s f) = s ≡ side
IsOfFile side (CellsRefusal s f) = ⊥
IsOfFile side (FlatRefusal s f) = ⊥
IsOfFile side OutOfMemory = ⊤

-- the refusal by the check of cells is true
abbrev pub IsCheckRefusal : Side → Kept → Refusal → Type 0
IsCheckRefusal side k (FileRefusal s f) = ⊥
IsCheckRefusal side k (CellsRefusal s f) = (s ≡ side) × IsCellFault k f
IsCheckRefusal side k (FlatRefusal s f) = ⊥
IsCheckRefusal side k OutOfMemory = ⊤

-- the refusal of what is out of range is true
abbrev pub IsFlattenRefusal : Side → Settled → Refusal → Type 0
IsFlattenRefusal side s (FileRefusal t f) = ⊥
IsFlattenRefusal side s (CellsRefusal t f) = ⊥
IsFlattenRefusal side s (FlatRefusal t f) = (t ≡ side) × IsFlatFault s f
IsFlattenRefusal side s OutOfMemory = ⊤

-- the name that is given, as bytes
abbrev pub given_name : Option (Vec ℕ Global) → Option (List ℕ)
given_name top = option_map (λ v. v.items) top

-- a file with the name that is given for its top
abbrev pub file : Profile → List ℕ → Option (Vec ℕ Global) → File
file profile bytes top = record { profile = profile; bytes = bytes; top = given_name top }

-- a library with its limits and the name that is given for its top
abbrev pub library_of : Limits → List (PlainCell Rings) → Option (Vec ℕ Global) → Kept
library_of limits cells top = record { limits = limits; cells = cells; top = given_name top }

-- a file with the name of its top
abbrev pub file_named : Profile → List ℕ → Option (List ℕ) → File
file_named profile bytes top = record { profile = profile; bytes = bytes; top = top }

-- a library with its limits and the name of its top
abbrev pub kept_named : Limits → List (PlainCell Rings) → Option (List ℕ) → Kept
kept_named limits cells top = record { limits = limits; cells = cells; top = top }
