-- How a job ends: its exit status, and what it writes to standard error (own rule).
use Rattle.std.specs.Prelude.{ℕ, List, [], ◌∷◌, ◌++◌, codes, decimal, Option, Some, None, Result, Ok, Err, Bool, true, false}
use Rattle.std.specs.Prelude.{◌||◌, ◌⊎◌, if◌then◌else◌, option_map}
use Rattle.std.specs.Io.KnownBytes.{Appends}
use Rattle.lvl_io.specs.Bytes.{CountsFailure}
use Rattle.std.specs.Prelude.{string_bytes}
use Rattle.lvl_profile.specs.Ignored.{comma}
use Rattle.lvl_profile.specs.declared.ignore.Ignore.{Ignore}
use Rattle.lvl_report.specs.declared.hint.Hint.{Hint}
use Rattle.lvl_report.specs.declared.hint.Hint.TheVariants.{Foreign, IgnoreMore, LiftLimits, ReadBlocks}
use Rattle.lvl_report.specs.declared.outcome.Outcome.{Outcome}
use Rattle.lvl_text.specs.Faults.{ignore_fault, view_fault}
use Rattle.lvl_view.specs.declared.fault.ViewFault.{ViewFault}
use Rattle.lvl_view.specs.declared.fault.ViewFault.TheVariants.{EmptyWindow, MapText, MapTwice, WindowText}
use Rattle.lvl_report.specs.Texts.{line}
use Rattle.lvl_report.specs.Writing.{status_code, AppendsBeginning}
use Rattle.lvl_job.specs.declared.files.OpenFault.{OpenFault}
use Rattle.lvl_job.specs.declared.files.OpenFault.TheVariants.{Denied, Missing, Other}
use Rattle.lvl_job.specs.declared.files.Look.{Look}
use Rattle.lvl_job.specs.declared.files.Look.TheVariants.{Directory, Gzip, Plain}
use Rattle.lvl_report.specs.declared.status.Status.{Status}
use Rattle.lvl_report.specs.declared.status.Status.TheVariants.{Refused}
use Rattle.lvl_job.specs.declared.fault.JobFault.{JobFault}
use Rattle.lvl_job.specs.declared.fault.JobFault.TheVariants.{BadView, BadIgnore, NotOpened, OutOfMemory, Output}
use Rattle.lvl_job.specs.declared.fault.JobFault.TheVariants.{BadLine, LongList, UnreadList}

-- the exit status of a job without an answer
abbrev pub fault_code : JobFault → ℕ
fault_code (BadView fault) = 3
fault_code (BadIgnore fault) = 3
fault_code (BadLine name n) = 3
fault_code (NotOpened name why) = 2
fault_code (UnreadList name) = 2
fault_code (LongList name) = 2
fault_code OutOfMemory = 2
fault_code Output = 4

-- the exit status of a job
abbrev pub end_code : Result Outcome JobFault → ℕ
end_code (Ok outcome) = status_code outcome.status
end_code (Err fault) = fault_code fault

-- the rest of the line of a fault of a view, and a line with the form that was expected
abbrev pub view_form : ViewFault → List ℕ
view_form MapText = codes "\nlvl: --map takes pairs L/D=L/D, joined by commas\n"
view_form WindowText = codes "\nlvl: --window takes x=A..B,y=C..D\n"
view_form (MapTwice layer) = codes "\n"
view_form EmptyWindow = codes "\n"

-- the rest of the line of a fault of what is ignored, and a line with the form that was expected
abbrev pub ignore_form : List ℕ
ignore_form = codes "\nlvl: --ignore takes properties, texts, names, padding, points or all, joined by commas\n"

-- the rest of the line of a file that wasn't opened, and why that is, on a line of its own, if it is known
abbrev pub open_form : OpenFault → List ℕ
open_form Missing = codes "\nlvl: no such file\n"
open_form Denied = codes "\nlvl: permission denied\n"
open_form Other = codes "\n"

-- why a job has no answer, on one line, and on another the form of a text that was expected, or why a file wasn't opened
abbrev pub fault_text : JobFault → List ℕ
fault_text (BadView fault) = codes "lvl: bad view " ++ view_fault fault ++ view_form fault
fault_text (BadIgnore fault) = codes "lvl: bad ignore " ++ ignore_fault fault ++ ignore_form
fault_text (NotOpened name why) = codes "lvl: cannot open " ++ string_bytes name ++ open_form why
fault_text (UnreadList name) = codes "lvl: " ++ string_bytes name ++ codes ": cannot read\n"
fault_text (LongList name) = codes "lvl: " ++ string_bytes name ++ codes ": too long\n"
fault_text (BadLine name n) = codes "lvl: " ++ string_bytes name ++ codes ": bad line " ++ decimal n ++ codes "\n"
fault_text OutOfMemory = line (codes "lvl: out of memory")
fault_text Output = line (codes "lvl: output failed")

-- a word of a list if it is given, after a comma if another word comes before it
abbrev pub listed : Bool → Bool → List ℕ → List ℕ
listed before given word = if given then (if before then comma ∷ word else word) else []

-- what is ignored, as words joined by commas
abbrev pub ignore_words : Ignore → List ℕ
ignore_words i =
    listed false i.properties (codes "properties") ++ listed i.properties i.texts (codes "texts")
    ++ listed (i.properties || i.texts) i.names (codes "names")
    ++ listed (i.properties || i.texts || i.names) i.padding (codes "padding")
    ++ listed (i.properties || i.texts || i.names || i.padding) i.points (codes "points")

-- the front of a line: the name of the only file, if there is one
abbrev pub front_of_line : List (List ℕ) → List ℕ
front_of_line (name ∷ []) = codes "lvl: " ++ name ++ codes ": "
front_of_line names = codes "lvl: "

-- what would mend a refusal
abbrev pub hint_words : Hint → List ℕ
hint_words (IgnoreMore more) = codes "try --ignore " ++ ignore_words more ++ codes ", or --ignore all\n"
hint_words LiftLimits = codes "try --large\n"
hint_words Foreign = codes "neither GDSII nor OASIS\n"
hint_words ReadBlocks = codes "try --unpack\n"

-- what is written for an answer: its hint, with the name of the only file if there is one, or its line
abbrev pub said_of : List (List ℕ) → Option Hint → Option (List ℕ) → List ℕ
said_of files (Some hint) text = front_of_line files ++ hint_words hint
said_of files None (Some text) = text
said_of files None None = []

-- what a job writes to standard error: the hint of its answer if it has one, or else which cells could be the top, that
-- the grid steps of two files differ and that a source of the map says nothing of the second; or why there is no answer. A job on one file has its name in the hint
abbrev pub end_text : List (List ℕ) → Result Outcome JobFault → List ℕ
end_text files (Ok outcome) = said_of files outcome.hint (option_map (λ text. text.items) outcome.line)
end_text files (Err fault) = fault_text fault

-- what is said of a file that is looked at after a refusal
abbrev pub look_text : List ℕ → Look → List ℕ
look_text name Directory = codes "lvl: " ++ name ++ codes " is a directory\n"
look_text name Gzip = codes "lvl: " ++ name ++ codes " is compressed (gzip): unpack it first\n"
look_text name Plain = []

-- whether files are looked at after an answer: it is a refusal with no hint, or only that at another format, and no line
abbrev pub is_unexplained : Status → Option Hint → Option (List ℕ) → Bool
is_unexplained Refused None None = true
is_unexplained Refused (Some Foreign) None = true
is_unexplained status hint text = false

-- whether files are looked at after the outcome of a job
abbrev pub is_looked_at : Outcome → Bool
is_looked_at o = is_unexplained o.status o.hint (option_map (λ text. text.items) o.line)

-- whether the output of a job failed
abbrev pub is_cut : {A : Type 0} → Result A JobFault → Bool
is_cut (Ok a) = false
is_cut (Err (BadView fault)) = false
is_cut (Err (BadIgnore fault)) = false
is_cut (Err (NotOpened name why)) = false
is_cut (Err (UnreadList name)) = false
is_cut (Err (LongList name)) = false
is_cut (Err (BadLine name n)) = false
is_cut (Err OutOfMemory) = false
is_cut (Err Output) = true

-- the whole text was written and no write failed, or a beginning of it was written and one write failed
abbrev pub IsSaid : List ℕ → Option (List ℕ) → Option (List ℕ) → ℕ → ℕ → Type 0
IsSaid text old new before after =
    (Appends old new text × CountsFailure before after false)
    ⊎ (AppendsBeginning old new text × CountsFailure before after true)
