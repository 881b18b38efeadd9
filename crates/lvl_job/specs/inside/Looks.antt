-- What is said of files that are looked at again.
use Rattle.std.specs.Prelude.{ℕ, List, [], ◌∷◌, Option, Result, string_bytes}
use Rattle.lvl_report.specs.declared.outcome.Outcome.{Outcome}
use Rattle.lvl_job.specs.Done.{AreLooks, IsEndText}
use Rattle.lvl_job.specs.Ends.{IsSaid, look_text}
use Rattle.lvl_job.specs.declared.fault.JobFault.{JobFault}
use Rattle.lvl_job.specs.declared.files.Look.{Look}
use Rattle.lvl_job.specs.declared.looked.Paths.{Paths}
use Rattle.lvl_job.specs.declared.looked.Paths.TheVariants.{None as NoPaths, One, Two}
use Rattle.lvl_job.specs.inside.Steps.{Says, Speaking}

-- the names of the files in their order
abbrev pub in_order : Paths → List (List ℕ)
in_order NoPaths = []
in_order (One name) = string_bytes name ∷ []
in_order (Two first second) = string_bytes first ∷ string_bytes second ∷ []

-- a file was looked at, and what it is was said
abbrev pub IsFileLooked : {S : Type 0} → (S → List ℕ → Look → Type 0) → S → List ℕ → Speaking → Speaking → Type 0
IsFileLooked looks s name a b = (look : Look) × looks s name look × Says (look_text name look) a b

-- all of them were
abbrev pub IsToldOf : {S : Type 0} → (S → List ℕ → Look → Type 0) → S → List (List ℕ) → Speaking → Speaking → Type 0
IsToldOf looks s names a b = (text : List ℕ) × AreLooks looks s names text × Says text a b

-- what is said of an answer
abbrev pub IsAnswerSaid : {S : Type 0} → (S → List ℕ → Look → Type 0) → S → List (List ℕ) → Result Outcome JobFault
    → Option (List ℕ) → Option (List ℕ) → ℕ → ℕ → Type 0
IsAnswerSaid looks s names ended old new before after =
    (text : List ℕ) × IsEndText looks s names ended text × IsSaid text old new before after
