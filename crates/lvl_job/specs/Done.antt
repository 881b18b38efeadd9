-- What is done for a job: what it opens, writes and says, and how it ends.
use Rattle.std.specs.Prelude.{◌≡◌, ◌⊎◌, ◌<◌, ⊤, ℕ, Bool, true, false, List, [], ◌∷◌, ◌++◌, length, Option, Some, Result, Ok, Err}
use Rattle.std.specs.Prelude.{IfOk, IfErr, String, string_bytes, option_map}
use Rattle.std.specs.Global.{Global}
use Rattle.std.specs.Io.KnownBytes.{Keeps}
use Rattle.lvl_io.specs.Bytes.{CountsFailure}
use Rattle.lvl_line.specs.declared.job.Job.{Job}
use Rattle.lvl_line.specs.declared.job.Job.TheVariants.{Check, List as ListJob}
use Rattle.lvl_list.specs.List.{IsBadLine, IsList}
use Rattle.lvl_list.specs.declared.entry.Entry.{Entry}
use Rattle.lvl_profile.specs.declared.profile.Profile.{Profile}
use Rattle.lvl_report.specs.declared.outcome.Outcome.{Outcome}
use Rattle.lvl_job.specs.declared.fault.JobFault.{JobFault}
use Rattle.lvl_job.specs.declared.fault.JobFault.TheVariants.{BadView, BadIgnore, NotOpened, OutOfMemory, Output}
use Rattle.lvl_job.specs.declared.fault.JobFault.TheVariants.{BadLine, LongList, UnreadList}
use Rattle.lvl_job.specs.Ends.{IsSaid, end_text, is_looked_at, look_text}
use Rattle.lvl_job.specs.declared.files.Look.{Look}
use Rattle.lvl_job.specs.Hashing.{Hash, IsPart, IsPass, IsStopped, items_of, texts_of}
use Rattle.lvl_job.specs.Jobs.{IsFaultOfJob, IsIgnoreFault, IsJobRun, UnderProfile, files_of}
use Rattle.lvl_job.specs.Listing.{checked_text, count_unlike, file_of_entry, file_of_name, name_listed, name_unlisted}
use Rattle.lvl_job.specs.Listing.{ended_with, no_note, summary_text, worst_checked, worst_listed}
use Rattle.lvl_job.specs.Opening.{Opened}

-- a writer before and after: its bytes, if they are known, and how many errors it has returned
pub record Change : Type 0 where
  pub old : Option (List ℕ)
  pub new : Option (List ℕ)
  pub before : ℕ
  pub after : ℕ

-- a writer before and after, from these values in this order
abbrev pub change : Option (List ℕ) → Option (List ℕ) → ℕ → ℕ → Change
change old new before after = record { old = old; new = new; before = before; after = after }

-- the text was written whole, and no write failed, or a beginning of it was, and one write failed
abbrev pub IsSaidOn : Change → List ℕ → Type 0
IsSaidOn err text = IsSaid text err.old err.new err.before err.after

-- the files of these names were looked at, and this is said of them
abbrev pub AreLooks : {S : Type 0} → (S → List ℕ → Look → Type 0) → S → List (List ℕ) → List ℕ → Type 0
AreLooks looks s [] text = text ≡ []
AreLooks looks s (name ∷ names) text =
    (look : Look) × (rest : List ℕ) × looks s name look × AreLooks looks s names rest
    × (text ≡ look_text name look ++ rest)

-- what a job on the files of these names writes to standard error: what `end_text` has, and after a refusal that
-- nothing else explains what the files are
abbrev pub IsEndText : {S : Type 0} → (S → List ℕ → Look → Type 0) → S → List (List ℕ) → Result Outcome JobFault
    → List ℕ → Type 0
IsEndText looks s names (Ok outcome) text =
    (is_looked_at outcome ≡ false → text ≡ end_text names (Ok outcome))
    × (is_looked_at outcome ≡ true → (more : List ℕ) × AreLooks looks s names more
    × (text ≡ end_text names (Ok outcome) ++ more))
IsEndText looks s names (Err fault) text = text ≡ end_text names (Err fault)

-- a job that has one answer: it was written, or this is why there is none; and this text was said
pub record IsOneDone {S : Type 0} (opens : S → List ℕ → Opened → S → Type 0) (looks : S → List ℕ → Look → Type 0)
    (job : Job) (old new : S) (out err : Change) (ended : Result Outcome JobFault) : Type 0 where
  pub text : List ℕ
  pub answered : IfOk ended (λ outcome. IsJobRun opens job old new out.old out.new (Ok outcome))
  pub fault : IfErr ended (IsFaultOfJob opens job old new out.old out.new)
  pub text_is : IsEndText looks new (files_of job) ended text
  pub said : IsSaidOn err text

-- ---- `--list`

-- all files were hashed in order and their lines written, and these are the status and what was said of single files
pub record IsListed {S : Type 0} (opens : S → List ℕ → Opened → S → Type 0)
    (names : List (String Global)) (profile : Profile) (top : Option (List ℕ)) (old new : S) (from to : Option (List ℕ))
    (said : List ℕ) (outcome : Outcome) : Type 0 where
  pub done : List (String Global × Hash)
  pub order : items_of done ≡ names
  pub pass : IsPass opens (file_of_name profile top) name_listed old new from to done
  pub said_is : said ≡ texts_of name_unlisted done
  pub ends : outcome ≡ ended_with (worst_listed done)

-- why not all files were listed. Output: the line of one of them was cut
abbrev pub IsListFault : {S : Type 0} → (S → List ℕ → Opened → S → Type 0) → List (String Global)
    → Option (List ℕ) → Option (String Global) → Bool → Bool → S → S → Option (List ℕ) → Option (List ℕ) → List ℕ
    → JobFault → Type 0
IsListFault opens names top ignored large unpack old new from to said (BadIgnore fault) =
    IsIgnoreFault (option_map string_bytes ignored) × (new ≡ old) × Keeps from to × (said ≡ [])
IsListFault opens names top ignored large unpack old new from to said OutOfMemory = (Keeps from to × (said ≡ [])) ⊎
    UnderProfile ignored large unpack (λ profile.
    IsPart opens (file_of_name profile top) name_listed name_unlisted names old from to said)
IsListFault opens names top ignored large unpack old new from to said Output =
    UnderProfile ignored large unpack (λ profile.
    IsStopped opens (file_of_name profile top) name_listed name_unlisted names old new from to said)
IsListFault opens names top ignored large unpack old new from to said fault = ⊥

-- what is done for a list of digests: an outcome if all files were listed, or why they weren't; what is said of the
-- files and of the end was written to standard error
pub record IsListDone {S : Type 0} (opens : S → List ℕ → Opened → S → Type 0)
    (names : List (String Global)) (top : Option (List ℕ)) (ignored : Option (String Global)) (large unpack : Bool)
    (old new : S) (out err : Change) (ended : Result Outcome JobFault) : Type 0 where
  pub said : List ℕ
  pub listed : IfOk ended (λ outcome. UnderProfile ignored large unpack (λ profile.
      IsListed opens names profile top old new out.old out.new said outcome))
  pub fault : IfErr ended (IsListFault opens names top ignored large unpack old new out.old out.new said)
  pub all_said : IsSaidOn err (said ++ end_text [] ended)

-- ---- `--check`

-- the file of the list was opened and no read of it failed; if its bytes are known, they are a list of these entries,
-- and Holds is true of the entries
pub record OfList {S : Type 0} (opens : S → List ℕ → Opened → S → Type 0) (list : List ℕ) (old : S)
    (Holds : S → List Entry → Type 0) : Type 0 where
  pub bytes : Option (List ℕ)
  pub new : S
  pub entries : List Entry
  pub errors : ℕ
  pub opened : opens old list (Ok bytes) new
  pub reads : CountsFailure 0 errors false
  pub listed : (xs : List ℕ) → bytes ≡ Some xs → IsList xs entries
  pub holds : Holds new entries

-- the files of the entries were hashed in order and their lines written, and these are the status and what was said
pub record IsChecked {S : Type 0} (opens : S → List ℕ → Opened → S → Type 0) (quiet : Bool)
    (profile : Profile) (top : Option (List ℕ)) (new : S) (from to : Option (List ℕ)) (said : List ℕ) (outcome : Outcome)
    (old : S) (entries : List Entry) : Type 0 where
  pub done : List (Entry × Hash)
  pub order : items_of done ≡ entries
  pub pass : IsPass opens (file_of_entry profile top) (checked_text quiet) old new from to done
  pub said_is : said ≡ summary_text (count_unlike done) (length entries)
  pub ends : outcome ≡ ended_with (worst_checked done)

-- the file of the list was opened, and no other file; `failed` says whether a read of it failed, and Holds is true of
-- its bytes, if they are known
pub record IsListOpened {S : Type 0} (opens : S → List ℕ → Opened → S → Type 0) (list : List ℕ)
    (old new : S) (failed : Bool) (Holds : List ℕ → Type 0) : Type 0 where
  pub bytes : Option (List ℕ)
  pub errors : ℕ
  pub opened : opens old list (Ok bytes) new
  pub reads : CountsFailure 0 errors failed
  pub holds : (xs : List ℕ) → bytes ≡ Some xs → Holds xs

-- why not all files of a list were checked. BadLine, LongList, UnreadList: only the file of the list was opened.
-- Output: the line of one of the files was cut
abbrev pub IsCheckFault : {S : Type 0} → (S → List ℕ → Opened → S → Type 0) → List ℕ → Bool
    → Option (List ℕ) → Option (String Global) → Bool → Bool → S → S → Option (List ℕ) → Option (List ℕ) → List ℕ
    → JobFault → Type 0
IsCheckFault opens list quiet top ignored large unpack old new from to said (BadIgnore fault) =
    IsIgnoreFault (option_map string_bytes ignored) × (new ≡ old) × Keeps from to × (said ≡ [])
IsCheckFault opens list quiet top ignored large unpack old new from to said (NotOpened name why) =
    (string_bytes name ≡ list) × opens old list (Err why) new × Keeps from to × (said ≡ [])
IsCheckFault opens list quiet top ignored large unpack old new from to said (UnreadList name) =
    (string_bytes name ≡ list) × IsListOpened opens list old new true (λ xs. ⊤) × Keeps from to × (said ≡ [])
IsCheckFault opens list quiet top ignored large unpack old new from to said (LongList name) =
    (string_bytes name ≡ list) × UnderProfile ignored large unpack (λ profile.
    IsListOpened opens list old new false (λ xs. profile.limits.file < length xs)) × Keeps from to × (said ≡ [])
IsCheckFault opens list quiet top ignored large unpack old new from to said (BadLine name n) =
    (string_bytes name ≡ list) × IsListOpened opens list old new false (λ xs. IsBadLine xs n) × Keeps from to × (said ≡ [])
IsCheckFault opens list quiet top ignored large unpack old new from to said OutOfMemory = (Keeps from to × (said ≡ [])) ⊎
    UnderProfile ignored large unpack (λ profile. OfList opens list old (λ between entries.
    IsPart opens (file_of_entry profile top) (checked_text quiet) no_note entries between from to said))
IsCheckFault opens list quiet top ignored large unpack old new from to said Output =
    UnderProfile ignored large unpack (λ profile. OfList opens list old (λ between entries.
    IsStopped opens (file_of_entry profile top) (checked_text quiet) no_note entries between new from to said))
IsCheckFault opens list quiet top ignored large unpack old new from to said (BadView fault) = ⊥

-- what is done for a check: an outcome if all files of the list were checked, or why they weren't; what is said of the
-- files and of the end was written to standard error
pub record IsCheckDone {S : Type 0} (opens : S → List ℕ → Opened → S → Type 0)
    (list : List ℕ) (quiet : Bool) (top : Option (List ℕ)) (ignored : Option (String Global)) (large unpack : Bool)
    (old new : S) (out err : Change) (ended : Result Outcome JobFault) : Type 0 where
  pub said : List ℕ
  pub checked : IfOk ended (λ outcome. UnderProfile ignored large unpack (λ profile. OfList opens list old
      (IsChecked opens quiet profile top new out.old out.new said outcome)))
  pub fault : IfErr ended (IsCheckFault opens list quiet top ignored large unpack old new out.old out.new said)
  pub all_said : IsSaidOn err (said ++ end_text [] ended)

-- what is done for a job
abbrev pub IsDone : {S : Type 0} → (S → List ℕ → Opened → S → Type 0) → (S → List ℕ → Look → Type 0) → Job → S → S
    → Change → Change → Result Outcome JobFault → Type 0
IsDone opens looks (ListJob names top ignored large unpack) =
    IsListDone opens names.items (option_map string_bytes top) ignored large unpack
IsDone opens looks (Check list quiet top ignored large unpack) =
    IsCheckDone opens (string_bytes list) quiet (option_map string_bytes top) ignored large unpack
IsDone opens looks job = IsOneDone opens looks job
