-- What a call promises of the readers of its files.
use Rattle.std.specs.Prelude.{◌≡◌, ℕ, List, Option, Some, None, Result, Ok, Err, IfOk, IfErr, IfSome}
use Rattle.lvl_io.specs.Bytes.{CountsFailure}
use Rattle.lvl_profile.specs.declared.profile.Profile.{Profile}
use Rattle.lvl_region.specs.declared.region.Side.{Side}
use Rattle.lvl_region.specs.declared.region.Side.TheVariants.{First}
use Rattle.lvl.specs.Answers.{IsEarlyOf, IsHopeless, IsRefusalOf, IsUnreadAt, is_read_of}
use Rattle.lvl.specs.Layouts.{File}
use Rattle.lvl.specs.Shown.{IsOfFirst}
use Rattle.lvl.specs.declared.layout.FileFault.{FileFault}
use Rattle.lvl.specs.declared.verdict.Refusal.{Refusal}
use Rattle.lvl.specs.declared.verdict.Refusal.TheVariants.{File as FileRefusal}

-- a reader in a call: the profile under which it is read, its bytes before the call and those left after it (None if
-- they aren't known), how many errors it had returned before and after, and the name of the top
pub record Input : Type 0 where
  pub profile : Profile
  pub bytes : Option (List ℕ)
  pub left : Option (List ℕ)
  pub before : ℕ
  pub after : ℕ
  pub top : Option (List ℕ)

-- a reader in a call, from these values in this order
abbrev pub input : Profile → Option (List ℕ) → Option (List ℕ) → ℕ → ℕ → Option (List ℕ) → Input
input profile bytes left before after top =
    record { profile = profile; bytes = bytes; left = left; before = before; after = after; top = top }

-- the file of a reader that has these bytes
abbrev pub file_of : Input → List ℕ → File
file_of a xs = record { profile = a.profile; bytes = xs; top = a.top }

-- nothing was read from it
abbrev pub IsUntouched : Input → Type 0
IsUntouched a = (a.left ≡ a.bytes) × (a.after ≡ a.before)

-- the refusal in a result, if there is one
abbrev pub refusal_of : {X : Type 0} → Result X Refusal → Option Refusal
refusal_of (Ok x) = None
refusal_of (Err r) = Some r

-- what a call promises of the reader of a side, by the refusal if there is one: it is true of the file; if it is
-- decided by the bytes that were taken, no library begins with them; after a failed read its offset is right; and the
-- reader returned an error exactly if the refusal is that a read of it failed
pub record IsReadBy (side : Side) (a : Input) (refusal : Option Refusal) : Type 0 where
  pub refused : (xs : List ℕ) → a.bytes ≡ Some xs → IfSome refusal (IsRefusalOf side (file_of a xs))
  pub early : (xs : List ℕ) → a.bytes ≡ Some xs
      → IfSome refusal (λ r. IsEarlyOf side r → IsHopeless a.profile xs a.left)
  pub unread : (xs : List ℕ) → a.bytes ≡ Some xs → (fault : FileFault) → refusal ≡ Some (FileRefusal side fault)
      → IsUnreadAt a.profile xs a.left fault
  pub reads : CountsFailure a.before a.after (is_read_of side refusal)

-- the result is possible for one reader: what was found satisfies `Says`, and a refusal is of the first side
pub record IsFoundBy {X : Type 0} (Says : File → X → Type 0) (a : Input) (result : Result X Refusal) : Type 0 where
  pub found : (xs : List ℕ) → a.bytes ≡ Some xs → IfOk result (Says (file_of a xs))
  pub read : IsReadBy First a (refusal_of result)
  pub side : IfErr result IsOfFirst
