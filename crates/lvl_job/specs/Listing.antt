-- What is written and said of the files of a list, and the status that each gives (own rule).
use Rattle.std.specs.Prelude.{ℕ, ◌==◌, Bool, false, true, ◌&&◌, not, nat_lt, if◌then◌else◌, List, [], ◌∷◌, ◌++◌}
use Rattle.std.specs.Prelude.{codes, decimal, Option, None, Ok, Err, String, string_bytes, count_by}
use Rattle.std.specs.Str.{bytes_eq}
use Rattle.std.specs.Global.{Global}
use Rattle.lvl.specs.declared.digested.Digested.{Digested}
use Rattle.lvl_list.specs.List.{entry_text, name_text}
use Rattle.lvl_list.specs.declared.entry.Entry.{Entry}
use Rattle.lvl_profile.specs.declared.profile.Profile.{Profile}
use Rattle.lvl_report.specs.declared.outcome.Outcome.{Outcome}
use Rattle.lvl_report.specs.declared.status.Status.{Status}
use Rattle.lvl_report.specs.declared.status.Status.TheVariants.{Same, Differ, Shown, Refused}
use Rattle.lvl_report.specs.Texts.{line, refusal_text}
use Rattle.lvl_report.specs.Writing.{status_code}
use Rattle.lvl_text.specs.Gds.{hex}
use Rattle.lvl_job.specs.Ends.{open_form}
use Rattle.lvl_job.specs.Jobs.{Named}
use Rattle.lvl_job.specs.Hashing.{Hash}

-- the digits of the SHA-256 of a mask
abbrev pub digits_of : Digested → List ℕ
digits_of d = hex d.mask.sha256

-- ---- `--list`

-- a file by its name in the command line; all have the same profile, and a top of the same name
abbrev pub file_of_name : Profile → Option (List ℕ) → String Global → Named
file_of_name profile top name = record { profile = profile; name = string_bytes name; top = top }

-- what is written of a file: the line of a list if it has a digest
abbrev pub listed_text : List ℕ → Hash → List ℕ
listed_text name (Ok (Ok digested)) = entry_text (digits_of digested) name
listed_text name (Ok (Err refusal)) = []
listed_text name (Err why) = []

-- what is said of it: why it has no digest
abbrev pub unlisted_text : List ℕ → Hash → List ℕ
unlisted_text name (Ok (Ok digested)) = []
unlisted_text name (Ok (Err refusal)) =
    codes "lvl: " ++ name_text name ++ codes ": " ++ line (refusal_text refusal)
unlisted_text name (Err why) = codes "lvl: cannot open " ++ name_text name ++ open_form why

-- what is listed of the file of this name
abbrev pub name_listed : String Global → Hash → List ℕ
name_listed name hash = listed_text (string_bytes name) hash

-- what is said of the file of this name: why it has no digest
abbrev pub name_unlisted : String Global → Hash → List ℕ
name_unlisted name hash = unlisted_text (string_bytes name) hash

-- the status of a file
abbrev pub listed_status : Hash → Status
listed_status (Ok (Ok digested)) = Shown
listed_status (Ok (Err refusal)) = Refused
listed_status (Err why) = Refused

-- ---- `--check`

-- a file by its entry in a list
abbrev pub file_of_entry : Profile → Option (List ℕ) → Entry → Named
file_of_entry profile top e = record { profile = profile; name = string_bytes e.name; top = top }

-- the status of a file: whether its digest is the one that the list has
abbrev pub checked_status : Entry → Hash → Status
checked_status e (Ok (Ok digested)) = if bytes_eq e.digits.items (digits_of digested) then Same else Differ
checked_status e (Ok (Err refusal)) = Refused
checked_status e (Err why) = Refused

-- whether the status is that of a file whose digest is the one that the list has
abbrev pub is_same : Status → Bool
is_same Same = true
is_same status = false

-- what is written of a file after its name
abbrev pub checked_words : Status → Hash → List ℕ
checked_words status (Ok (Ok digested)) = if is_same status then codes ": same\n" else codes ": differs\n"
checked_words status (Ok (Err refusal)) = codes ": " ++ line (refusal_text refusal)
checked_words status (Err why) = codes ": cannot open\n"

-- what is written of a file; with `--quiet` nothing if it is the same
abbrev pub checked_text : Bool → Entry → Hash → List ℕ
checked_text quiet e hash =
    if quiet && is_same (checked_status e hash) then []
    else name_text (string_bytes e.name) ++ checked_words (checked_status e hash) hash

-- nothing is said of a file by itself
abbrev pub no_note : Entry → Hash → List ℕ
no_note e hash = []

-- the number of files that aren't the same
abbrev pub count_unlike : List (Entry × Hash) → ℕ
count_unlike done = count_by (λ p. not (is_same (checked_status p.0 p.1))) done

-- the line that counts them
abbrev pub summary_line : ℕ → ℕ → List ℕ
summary_line unlike all =
    line (codes "lvl: " ++ decimal unlike ++ codes " of " ++ decimal all ++ codes " files differ or could not be compared")

-- what is said at the end: that line, if a file isn't the same
abbrev pub summary_text : ℕ → ℕ → List ℕ
summary_text unlike all = if unlike == 0 then [] else summary_line unlike all

-- ---- the status of all files

-- the status with the greater code
abbrev pub worse : Status → Status → Status
worse a b = if nat_lt (status_code a) (status_code b) then b else a

-- the greatest of `first` and the statuses of the files
abbrev pub worst : {X : Type 0} → (X → Hash → Status) → Status → List (X × Hash) → Status
worst status first [] = first
worst status first (p ∷ ps) = worst status (worse first (status p.0 p.1)) ps

-- the status of files that were listed: Refused if one of them has no digest
abbrev pub worst_listed : List (String Global × Hash) → Status
worst_listed done = worst (λ name hash. listed_status hash) Shown done

-- the status of files that were checked: the one with the greatest code
abbrev pub worst_checked : List (Entry × Hash) → Status
worst_checked done = worst checked_status Same done

-- a job on several files ends with their status alone
abbrev pub ended_with : Status → Outcome
ended_with status = record { status = status; hint = None; line = None }
