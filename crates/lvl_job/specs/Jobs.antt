-- What a job does: which files it opens, in which order, and what it writes.
use Rattle.std.specs.Prelude.{◌≡◌, ℕ, List, [], ◌∷◌, Option, Some, None, Result, Ok, Err, Bool, true, false, option_map}
use Rattle.std.specs.Prelude.{if◌then◌else◌}
use Rattle.std.specs.Prelude.{◌⊎◌}
use Rattle.std.specs.Prelude.{String, string_bytes}
use Rattle.std.specs.Global.{Global}
use Rattle.std.specs.Io.KnownBytes.{Keeps}
use Rattle.lvl_profile.specs.Ignored.{nothing, IsText}
use Rattle.lvl_profile.specs.Limits.{large, standard}
use Rattle.lvl_profile.specs.declared.ignore.Ignore.{Ignore}
use Rattle.lvl_profile.specs.declared.limits.Limits.{Limits}
use Rattle.lvl_profile.specs.declared.profile.Profile.{Profile}
use Rattle.lvl_line.specs.declared.job.Job.{Job}
use Rattle.lvl_line.specs.declared.job.Job.TheVariants.{Cells, Check, Compare, Digest, List as ListJob, Show}
use Rattle.lvl_report.specs.declared.outcome.Outcome.{Outcome}
use Rattle.lvl.specs.Readers.{Input, input}
use Rattle.lvl_report.specs.Runs.{IsFileRun, IsQuestionRun}
use Rattle.lvl_report.specs.declared.runs.Wanted.{Wanted}
use Rattle.lvl_report.specs.declared.runs.Wanted.TheVariants as wanted
use Rattle.lvl_report.specs.declared.status.RunFault.{RunFault}
use Rattle.lvl_report.specs.declared.status.RunFault.TheVariants.{Output as RunOutput}
use Rattle.lvl_view.specs.declared.fault.ViewFault.{ViewFault}
use Rattle.lvl_view.specs.Views.{PlainView, IsViewOf, IsFaultOf}
use Rattle.lvl_job.specs.declared.fault.JobFault.{JobFault}
use Rattle.lvl_job.specs.declared.fault.JobFault.TheVariants.{BadView, BadIgnore, NotOpened, OutOfMemory, Output}
use Rattle.lvl_job.specs.declared.fault.JobFault.TheVariants.{BadLine, LongList, UnreadList}
use Rattle.lvl_job.specs.Opening.{Opened}
use Rattle.lvl_job.specs.declared.files.OpenFault.{OpenFault}

-- What a job on a list does is in Done.antt.

-- whether the job has one answer, and is on no list
abbrev pub has_one_answer : Job → Bool
has_one_answer (ListJob names top ignored is_large unpack) = false
has_one_answer (Check list quiet top ignored is_large unpack) = false
has_one_answer job = true

-- the names of the files of a job that has one answer, in their order
abbrev pub files_of : Job → List (List ℕ)
files_of (Compare first second top_a top_b map_text window_text ignored is_large unpack why units) =
    string_bytes first ∷ string_bytes second ∷ []
files_of (Show file top ignored is_large unpack) = string_bytes file ∷ []
files_of (Digest file top ignored is_large unpack) = string_bytes file ∷ []
files_of (Cells file ignored is_large unpack) = string_bytes file ∷ []
files_of job = []

-- the name of a file in a job, its profile, and the name of its top
pub record Named : Type 0 where
  pub profile : Profile
  pub name : List ℕ
  pub top : Option (List ℕ)

-- a file by its words in the command line
abbrev pub named : Profile → String Global → Option (String Global) → Named
named profile file top = record { profile = profile; name = string_bytes file; top = option_map string_bytes top }

-- a file after it was read: the bytes that are left, if they are known, and how many errors its reader returned
pub record Left : Type 0 where
  pub bytes : Option (List ℕ)
  pub errors : ℕ

-- a reader of these bytes, which had returned no errors before the run
abbrev pub reader_of : Profile → Option (List ℕ) → Left → Option (List ℕ) → Input
reader_of profile bytes left top = input profile bytes left.bytes 0 left.errors top

-- the file was opened, and Holds is true of its reader; no other file was opened
pub record OfOne {S : Type 0} (opens : S → List ℕ → Opened → S → Type 0) (old new : S) (a : Named)
    (Holds : Input → Type 0) : Type 0 where
  pub bytes : Option (List ℕ)
  pub left : Left
  pub opened : opens old a.name (Ok bytes) new
  pub holds : Holds (reader_of a.profile bytes left a.top)

-- both files were opened, `a` before `b`, and Holds is true of their readers; no other file was opened
pub record OfTwo {S : Type 0} (opens : S → List ℕ → Opened → S → Type 0) (old new : S) (a b : Named)
    (Holds : Input → Input → Type 0) : Type 0 where
  pub first : Option (List ℕ)
  pub second : Option (List ℕ)
  pub between : S
  pub first_left : Left
  pub second_left : Left
  pub first_opened : opens old a.name (Ok first) between
  pub second_opened : opens between b.name (Ok second) new
  pub holds : Holds (reader_of a.profile first first_left a.top) (reader_of b.profile second second_left b.top)

-- the first file was opened, but then the second could not be, and why
pub record IsSecondMissing {S : Type 0} (opens : S → List ℕ → Opened → S → Type 0) (old new : S)
    (a b : List ℕ) (why : OpenFault) : Type 0 where
  pub first : Option (List ℕ)
  pub between : S
  pub first_opened : opens old a (Ok first) between
  pub second_missing : opens between b (Err why) new

-- the file of this name could not be opened, and why; if it is `a`, the job didn't try to open `b`
abbrev pub IsMissing : {S : Type 0} → (S → List ℕ → Opened → S → Type 0) → S → S → List ℕ
    → List ℕ → List ℕ → OpenFault → Type 0
IsMissing opens old new a b name why =
    ((name ≡ a) × opens old a (Err why) new) ⊎ ((name ≡ b) × IsSecondMissing opens old new a b why)

-- Holds is true of the view that the texts of a map and a window give; if neither is given, it has no pairs and no
-- window
pub record UnderView (map_text window_text : Option (String Global)) (Holds : PlainView → Type 0) : Type 0 where
  pub view : PlainView
  pub asked : IsViewOf (option_map string_bytes map_text) (option_map string_bytes window_text) view
  pub holds : Holds view

-- the set that a text of what is ignored gives; empty if there is no text
abbrev pub IsIgnoreAsked : Option (List ℕ) → Ignore → Type 0
IsIgnoreAsked None ignore = ignore ≡ nothing
IsIgnoreAsked (Some text) ignore = IsText text ignore

-- the limits that are asked for
abbrev pub limits_asked : Bool → Limits
limits_asked is_large = if is_large then large else standard

-- the profile has the set that a text of what is ignored gives and the limits that are asked for, and reads compressed
-- blocks if that is asked for
pub record IsProfileAsked (text : Option (List ℕ)) (is_large is_unpacked : Bool) (profile : Profile) : Type 0 where
  pub ignore : IsIgnoreAsked text profile.ignore
  pub limits : profile.limits ≡ limits_asked is_large
  pub unpack : profile.unpack ≡ is_unpacked

-- Holds is true of the profile that is asked for
pub record UnderProfile (ignored : Option (String Global)) (is_large unpack : Bool) (Holds : Profile → Type 0)
    : Type 0 where
  pub profile : Profile
  pub asked : IsProfileAsked (option_map string_bytes ignored) is_large unpack profile
  pub holds : Holds profile

-- the text gives no set of what is ignored
abbrev pub IsIgnoreFault : Option (List ℕ) → Type 0
IsIgnoreFault None = ⊥
IsIgnoreFault (Some text) = (ignore : Ignore) → ¬ IsText text ignore

-- a run on one file by the words of its job: the file was opened, and the run ended with this result
abbrev pub IsFileDone : {S : Type 0} → (S → List ℕ → Opened → S → Type 0) → Wanted → String Global
    → Option (String Global) → Option (String Global) → Bool → Bool → S → S → Option (List ℕ) → Option (List ℕ)
    → Result Outcome RunFault → Type 0
IsFileDone opens wanted file top ignored is_large unpack old new from to ended =
    UnderProfile ignored is_large unpack (λ profile. OfOne opens old new (named profile file top)
    (λ a. IsFileRun wanted a from to ended))

-- the run of a job: its files were opened, and it ended with this result
abbrev pub IsJobRun : {S : Type 0} → (S → List ℕ → Opened → S → Type 0) → Job → S → S → Option (List ℕ)
    → Option (List ℕ) → Result Outcome RunFault → Type 0
IsJobRun opens (Compare first second top_a top_b map_text window_text ignored is_large unpack why units) old new from to
    ended =
    UnderView map_text window_text (λ view. UnderProfile ignored is_large unpack (λ profile.
    OfTwo opens old new (named profile first top_a) (named profile second top_b)
    (λ a b. IsQuestionRun (record { view = view; why = why; units = units }) a b from to ended)))
IsJobRun opens (Show file top ignored is_large unpack) old new from to ended =
    IsFileDone opens wanted.Show file top ignored is_large unpack old new from to ended
IsJobRun opens (Digest file top ignored is_large unpack) old new from to ended =
    IsFileDone opens wanted.Digest file top ignored is_large unpack old new from to ended
IsJobRun opens (Cells file ignored is_large unpack) old new from to ended =
    IsFileDone opens wanted.Cells file None ignored is_large unpack old new from to ended
IsJobRun opens job old new from to ended = ⊥

-- why a job has no answer: what is true if the texts of a map and a window give no view, if the text of what is
-- ignored gives no set, if a file isn't opened, and if the output failed. If a text is bad, no file was opened; and
-- unless the output failed, nothing was written
abbrev pub IsFaultBy : (ViewFault → Type 0) → Type 0 → (List ℕ → OpenFault → Type 0) → Type 0 → {S : Type 0} → S → S
    → Option (List ℕ) → Option (List ℕ) → JobFault → Type 0
IsFaultBy BadViewIf BadIgnoreIf Missing Cut old new from to (BadView fault) =
    BadViewIf fault × (new ≡ old) × Keeps from to
IsFaultBy BadViewIf BadIgnoreIf Missing Cut old new from to (BadIgnore fault) =
    BadIgnoreIf × (new ≡ old) × Keeps from to
IsFaultBy BadViewIf BadIgnoreIf Missing Cut old new from to (NotOpened name why) =
    Missing (string_bytes name) why × Keeps from to
IsFaultBy BadViewIf BadIgnoreIf Missing Cut old new from to (UnreadList name) = ⊥
IsFaultBy BadViewIf BadIgnoreIf Missing Cut old new from to (LongList name) = ⊥
IsFaultBy BadViewIf BadIgnoreIf Missing Cut old new from to (BadLine name n) = ⊥
IsFaultBy BadViewIf BadIgnoreIf Missing Cut old new from to OutOfMemory = Keeps from to
IsFaultBy BadViewIf BadIgnoreIf Missing Cut old new from to Output = Cut

-- why a job on one file has no answer
abbrev pub IsFileFault : {S : Type 0} → (S → List ℕ → Opened → S → Type 0) → Wanted → String Global
    → Option (String Global) → Option (String Global) → Bool → Bool → S → S → Option (List ℕ) → Option (List ℕ)
    → JobFault → Type 0
IsFileFault opens wanted file top ignored is_large unpack old new from to =
    IsFaultBy (λ fault. ⊥) (IsIgnoreFault (option_map string_bytes ignored))
    (λ name why. UnderProfile ignored is_large unpack (λ profile.
    (name ≡ string_bytes file) × opens old name (Err why) new))
    (IsFileDone opens wanted file top ignored is_large unpack old new from to (Err RunOutput)) old new from to

-- why a job that isn't on a list has no answer; the view is read before what is ignored
abbrev pub IsFaultOfJob : {S : Type 0} → (S → List ℕ → Opened → S → Type 0) → Job → S → S → Option (List ℕ)
    → Option (List ℕ) → JobFault → Type 0
IsFaultOfJob opens (Compare first second top_a top_b map_text window_text ignored is_large unpack why units) old new
    from to fault =
    IsFaultBy (IsFaultOf (option_map string_bytes map_text) (option_map string_bytes window_text))
    (UnderView map_text window_text (λ view. IsIgnoreFault (option_map string_bytes ignored)))
    (λ name reason. UnderView map_text window_text (λ view. UnderProfile ignored is_large unpack (λ profile.
    IsMissing opens old new (string_bytes first) (string_bytes second) name reason)))
    (IsJobRun opens (Compare first second top_a top_b map_text window_text ignored is_large unpack why units) old new
    from to (Err RunOutput)) old new from to fault
IsFaultOfJob opens (Show file top ignored is_large unpack) old new from to fault =
    IsFileFault opens wanted.Show file top ignored is_large unpack old new from to fault
IsFaultOfJob opens (Digest file top ignored is_large unpack) old new from to fault =
    IsFileFault opens wanted.Digest file top ignored is_large unpack old new from to fault
IsFaultOfJob opens (Cells file ignored is_large unpack) old new from to fault =
    IsFileFault opens wanted.Cells file None ignored is_large unpack old new from to fault
IsFaultOfJob opens job old new from to fault = ⊥
