-- What the loops over the files of a list return.
use Rattle.std.specs.Prelude.{◌≡◌, ◌<◌, ⊤, ℕ, Bool, true, false, List, [], length, Option, Some, Result, Ok, Err}
use Rattle.std.specs.Prelude.{IfOk, IfErr, String, string_bytes}
use Rattle.std.specs.Global.{Global}
use Rattle.lvl_io.specs.Bytes.{CountsFailure}
use Rattle.lvl_list.specs.List.{IsBadLine, IsList}
use Rattle.lvl_list.specs.declared.entry.Entry.{Entry}
use Rattle.lvl_profile.specs.declared.profile.Profile.{Profile}
use Rattle.lvl_report.specs.declared.outcome.Outcome.{Outcome}
use Rattle.lvl_job.specs.declared.checking.Tally.{Tally}
use Rattle.lvl_job.specs.declared.fault.JobFault.{JobFault}
use Rattle.lvl_job.specs.declared.fault.JobFault.TheVariants.{OutOfMemory, Output}
use Rattle.lvl_job.specs.declared.fault.JobFault.TheVariants.{BadLine, LongList, NotOpened, UnreadList}
use Rattle.lvl_job.specs.Done.{IsListOpened, IsListed}
use Rattle.lvl_job.specs.Hashing.{Hash, IsHashed, IsPart, IsPass, IsStopped, items_of}
use Rattle.lvl_job.specs.Jobs.{Named}
use Rattle.lvl_job.specs.Listing.{checked_text, count_unlike, file_of_entry, file_of_name, name_listed, name_unlisted}
use Rattle.lvl_job.specs.Listing.{checked_status, listed_status, listed_text, no_note, unlisted_text, worst_checked}
use Rattle.lvl_job.specs.inside.Steps.{IsNoted, IsPut, Says, Speaking}
use Rattle.lvl_report.specs.declared.status.Status.{Status}
use Rattle.lvl_job.specs.Opening.{Opened}

-- a file was hashed, its line written and why it has none said, and this is its status
pub record IsFileListed {S : Type 0} (opens : S → List ℕ → Opened → S → Type 0) (file : Named)
    (old new : S) (from to : Option (List ℕ)) (a b : Speaking) (r : Result Status JobFault) : Type 0 where
  pub hash : Hash
  pub hashed : IsHashed opens file old new hash
  pub written : IsPut (listed_text file.name hash) from to r
  pub noted : IsNoted (unlisted_text file.name hash) a b r
  pub status : IfOk r (λ s. s ≡ listed_status hash)

-- a file was hashed, how it compares with its entry was written, and this is its status
pub record IsFileChecked {S : Type 0} (opens : S → List ℕ → Opened → S → Type 0) (e : Entry)
    (quiet : Bool) (file : Named) (old new : S) (from to : Option (List ℕ)) (r : Result Status JobFault) : Type 0 where
  pub hash : Hash
  pub hashed : IsHashed opens file old new hash
  pub written : IsPut (checked_text quiet e hash) from to r
  pub status : IfOk r (λ s. s ≡ checked_status e hash)

-- why the loop didn't come to its end
abbrev pub IsLoopFault : {S X : Type 0} → (S → List ℕ → Opened → S → Type 0) → (X → Named)
    → (X → Hash → List ℕ) → (X → Hash → List ℕ) → List X → S → S → Option (List ℕ) → Option (List ℕ) → List ℕ → JobFault
    → Type 0
IsLoopFault opens file text note items old new from to said OutOfMemory =
    IsPart opens file text note items old from to said
IsLoopFault opens file text note items old new from to said Output =
    IsStopped opens file text note items old new from to said
IsLoopFault opens file text note items old new from to said fault = ⊥

-- the files were listed, or this is why not all of them were; and this was said
pub record IsListing {S : Type 0} (opens : S → List ℕ → Opened → S → Type 0)
    (names : List (String Global)) (profile : Profile) (top : Option (List ℕ)) (old new : S) (from to : Option (List ℕ))
    (a b : Speaking) (r : Result Outcome JobFault) : Type 0 where
  pub said : List ℕ
  pub listed : IfOk r (IsListed opens names profile top old new from to said)
  pub fault : IfErr r
      (IsLoopFault opens (file_of_name profile top) name_listed name_unlisted names old new from to said)
  pub told : Says said a b

-- the files were checked, with this tally
pub record IsCheckedAll {S : Type 0} (opens : S → List ℕ → Opened → S → Type 0) (entries : List Entry)
    (quiet : Bool) (profile : Profile) (top : Option (List ℕ)) (old new : S) (from to : Option (List ℕ)) (tally : Tally)
    : Type 0 where
  pub done : List (Entry × Hash)
  pub order : items_of done ≡ entries
  pub pass : IsPass opens (file_of_entry profile top) (checked_text quiet) old new from to done
  pub status : tally.status ≡ worst_checked done
  pub unlike : tally.unlike ≡ count_unlike done

-- the files were checked, or this is why not all of them were
pub record IsChecking {S : Type 0} (opens : S → List ℕ → Opened → S → Type 0) (entries : List Entry)
    (quiet : Bool) (profile : Profile) (top : Option (List ℕ)) (old new : S) (from to : Option (List ℕ))
    (r : Result Tally JobFault) : Type 0 where
  pub checked : IfOk r (IsCheckedAll opens entries quiet profile top old new from to)
  pub fault : IfErr r
      (IsLoopFault opens (file_of_entry profile top) (checked_text quiet) no_note entries old new from to [])

-- the file of the list was opened and no read of it failed; if its bytes are known, they are a list of these entries
pub record IsEntries {S : Type 0} (opens : S → List ℕ → Opened → S → Type 0) (list : List ℕ)
    (old new : S) (entries : List Entry) : Type 0 where
  pub bytes : Option (List ℕ)
  pub errors : ℕ
  pub opened : opens old list (Ok bytes) new
  pub reads : CountsFailure 0 errors false
  pub listed : (xs : List ℕ) → bytes ≡ Some xs → IsList xs entries

-- why a list has no entries
abbrev pub IsNoEntries : {S : Type 0} → (S → List ℕ → Opened → S → Type 0) → List ℕ → ℕ → S → S
    → JobFault → Type 0
IsNoEntries opens list limit old new (NotOpened name why) = (string_bytes name ≡ list) × opens old list (Err why) new
IsNoEntries opens list limit old new (UnreadList name) =
    (string_bytes name ≡ list) × IsListOpened opens list old new true (λ xs. ⊤)
IsNoEntries opens list limit old new (LongList name) =
    (string_bytes name ≡ list) × IsListOpened opens list old new false (λ xs. limit < length xs)
IsNoEntries opens list limit old new (BadLine name n) =
    (string_bytes name ≡ list) × IsListOpened opens list old new false (λ xs. IsBadLine xs n)
IsNoEntries opens list limit old new OutOfMemory = ⊤
IsNoEntries opens list limit old new fault = ⊥
