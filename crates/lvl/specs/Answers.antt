-- What a result says about two files: a verdict, or why one of them is refused.
use Rattle.std.specs.Prelude.{◌≡◌, ◌≢◌, ◌≤◌, ⊤, ℕ, Bool, false, List, ◌++◌, length, Option, Some, Result, Ok, Err}
use Rattle.std.specs.Io.KnownBytes.{prepend_known}
use Rattle.lvl_profile.specs.declared.profile.Profile.{Profile}
use Rattle.lvl_path.specs.Figure.{figure_rings}
use Rattle.lvl_cells.specs.Cells.{kept}
use Rattle.lvl_region.specs.declared.region.Side.{Side}
use Rattle.lvl_region.specs.declared.region.Side.TheVariants.{First, Second}
use Rattle.lvl.specs.Drawing.{Drawing}
use Rattle.lvl_refusal.specs.declared.Cause.{Cause}
use Rattle.lvl_refusal.specs.declared.Cause.TheVariants.{Breach, OutOfMemory as NoMemory}
use Rattle.gds_library.specs.Ends.{Reports as ReportsGds, IsExcused as IsExcusedGds, IsEarly as IsEarlyGds}
use Rattle.gds_library.specs.Ends.{ReportsUnread as ReportsUnreadGds, is_read_kind}
use Rattle.gds_records.specs.declared.fault.RecordFault.TheVariants.{Read}
use Rattle.gds_library.specs.declared.fault.GdsFault.{GdsFault}
use Rattle.gds_library.specs.declared.fault.GdsKind.TheVariants.{Record}
use Rattle.oasis_library.specs.Ends.{Reports as ReportsOasis, IsExcused as IsExcusedOasis, IsEarly as IsEarlyOasis}
use Rattle.oasis_library.specs.Ends.{ReportsUnread as ReportsUnreadOasis, is_read_error}
use Rattle.lvl.specs.declared.layout.Head.{Head}
use Rattle.lvl.specs.declared.layout.FileFault.{FileFault}
use Rattle.lvl.specs.declared.layout.FileFault.TheVariants.{Gds, Oasis}
use Rattle.lvl.specs.declared.verdict.Refusal.{Refusal}
use Rattle.lvl.specs.declared.verdict.Refusal.TheVariants.{File as FileRefusal, Cells as CellsRefusal}
use Rattle.lvl.specs.declared.verdict.Refusal.TheVariants.{Flat as FlatRefusal, OutOfMemory}
use Rattle.lvl.specs.Layouts.{File, IsOasis, Spells, SpellsSome}
use Rattle.lvl.specs.Accepted.{IsAccepted, IsUnaccepted}
use Rattle.lvl.specs.Kept.{Kept, Passes, IsCellFault, IsRangeFault}

-- the fault is a failed read, and says nothing about the file
abbrev pub IsExcusedFile : FileFault → Type 0
IsExcusedFile (Gds f) = IsExcusedGds f
IsExcusedFile (Oasis f) = IsExcusedOasis f

-- a first read that failed before there was a byte; it is reported as one of GDSII
abbrev pub nothing_read : GdsFault
nothing_read = record { offset = 0; kind = Record Read }

-- the fault is true of the bytes, by the reader of its format; the format is that of the first byte, if one was read
abbrev pub ReportsOfFile : Profile → List ℕ → FileFault → Type 0
ReportsOfFile profile bytes (Gds f) = (f ≢ nothing_read → ¬ IsOasis bytes) × ReportsGds profile bytes f
ReportsOfFile profile bytes (Oasis f) = IsOasis bytes × ReportsOasis profile bytes f

-- if the fault is a failed read, the bytes before its offset are a front; of those from it on, the ones that the
-- reader gave are none or an unfinished beginning of a record, and it has the others left
abbrev pub ReportsUnreadFile : Profile → List ℕ → Option (List ℕ) → FileFault → Type 0
ReportsUnreadFile profile bytes left (Gds f) = ReportsUnreadGds profile bytes left f
ReportsUnreadFile profile bytes left (Oasis f) = ReportsUnreadOasis profile bytes left f

-- if the fault is a failed read, its offset is right, though the first byte of the file, which says its format, may
-- not be counted as given
pub record IsUnreadAt (profile : Profile) (bytes : List ℕ) (left : Option (List ℕ)) (fault : FileFault) : Type 0 where
  pub first : List ℕ
  pub few : length first ≤ 1
  pub unread : ReportsUnreadFile profile bytes (prepend_known first left) fault

-- the refusal is of that side's file, and neither out of memory nor a failed read
abbrev pub Blames : Side → Refusal → Type 0
Blames side (FileRefusal s f) = (s ≡ side) × (¬ IsExcusedFile f)
Blames side (CellsRefusal s f) = s ≡ side
Blames side (FlatRefusal s f) = s ≡ side
Blames side OutOfMemory = ⊥

-- the library as it is kept, with its figures as rings, and the name of its top
abbrev pub kept_of : File → List Drawing → Kept
kept_of file cells =
    record { limits = file.profile.limits; cells = kept figure_rings cells; top = file.top }

-- the fault is true of the bytes, or of every library that they spell
abbrev pub IsReported : Side → File → Refusal → Type 0
IsReported side file (FileRefusal s fault) = s ≡ side → ReportsOfFile file.profile file.bytes fault
IsReported side file (CellsRefusal s fault) =
    s ≡ side → (cells : List Drawing) (head : Head) → Spells file.profile file.bytes cells head
    → IsCellFault (kept_of file cells) fault
IsReported side file (FlatRefusal s fault) =
    s ≡ side → (cells : List Drawing) (head : Head) → Spells file.profile file.bytes cells head
    → IsRangeFault (kept_of file cells) fault
IsReported side file OutOfMemory = ⊤

-- the file spells a library that passes the check of cells
abbrev pub PassesCheck : File → Type 0
PassesCheck file = (cells : List Drawing) × (head : Head) × Spells file.profile file.bytes cells head
    × Passes (kept_of file cells)

-- the steps for this side's file before the one that refused have passed. The steps are: both files are read, then the
-- cells of both are checked, then what both place is tested to be in range; always the first file before the second
abbrev pub HasPassed : Side → File → Refusal → Type 0
HasPassed First a (FileRefusal First f) = ⊤
HasPassed First a (FileRefusal Second f) = SpellsSome a.profile a.bytes
HasPassed First a (CellsRefusal First f) = SpellsSome a.profile a.bytes
HasPassed First a (CellsRefusal Second f) = PassesCheck a
HasPassed First a (FlatRefusal First f) = PassesCheck a
HasPassed First a (FlatRefusal Second f) = (cells : List Drawing) × (top : Drawing) × IsAccepted a cells top
HasPassed First a OutOfMemory = ⊤
HasPassed Second b (FileRefusal side f) = ⊤
HasPassed Second b (CellsRefusal side f) = SpellsSome b.profile b.bytes
HasPassed Second b (FlatRefusal side f) = PassesCheck b
HasPassed Second b OutOfMemory = ⊤

-- what a refusal says about the file of one side: if it names this side, the file isn't accepted, and the fault is
-- true; and the earlier steps for this file have passed
pub record IsRefusalOf (side : Side) (file : File) (r : Refusal) : Type 0 where
  pub unaccepted : Blames side r → IsUnaccepted file
  pub reported : IsReported side file r
  pub passed : HasPassed side file r

-- the fault is neither that the input ended nor a failed read, so it is decided by the bytes that were taken
abbrev pub IsEarlyFile : FileFault → Type 0
IsEarlyFile (Gds f) = IsEarlyGds f
IsEarlyFile (Oasis f) = IsEarlyOasis f

-- the refusal is of that side's file, with such a fault
abbrev pub IsEarlyOf : Side → Refusal → Type 0
IsEarlyOf side (FileRefusal s f) = (s ≡ side) × IsEarlyFile f
IsEarlyOf side (CellsRefusal s f) = ⊥
IsEarlyOf side (FlatRefusal s f) = ⊥
IsEarlyOf side OutOfMemory = ⊥

-- no library is spelled by bytes that begin with those that were taken from the input; the others are left
pub record IsHopeless (profile : Profile) (xs : List ℕ) (left : Option (List ℕ)) : Type 0 where
  pub taken : List ℕ
  pub rest : List ℕ
  pub parts : xs ≡ taken ++ rest
  pub left_is : left ≡ Some rest
  pub none : (more : List ℕ) → SpellsSome profile (taken ++ more) → ⊥

-- the fault is a failed read
abbrev pub read_failed : FileFault → Bool
read_failed (Gds f) = is_read_kind f.kind
read_failed (Oasis f) = is_read_error f

-- the result is a failed read
abbrev pub is_failed_read : {A : Type 0} → Result A (Cause FileFault) → Bool
is_failed_read (Ok x) = false
is_failed_read (Err (Breach f)) = read_failed f
is_failed_read (Err NoMemory) = false

-- the refusal is that a read of that side failed
abbrev pub is_read_of : Side → Option Refusal → Bool
is_read_of First (Some (FileRefusal First f)) = read_failed f
is_read_of Second (Some (FileRefusal Second f)) = read_failed f
is_read_of side refusal = false
