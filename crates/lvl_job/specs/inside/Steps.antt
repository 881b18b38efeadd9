-- What the steps of a job on a list return.
use Rattle.std.specs.Prelude.{◌≡◌, ◌++◌, ℕ, true, false, List, Option, Result, Ok, Err, MatchResult}
use Rattle.std.specs.Io.KnownBytes.{Appends, Keeps}
use Rattle.lvl_io.specs.Bytes.{CountsFailure}
use Rattle.lvl_io.specs.declared.Failure.{Failure}
use Rattle.lvl_report.specs.Writing.{AppendsBeginning}
use Rattle.lvl_job.specs.declared.fault.JobFault.{JobFault}
use Rattle.lvl_job.specs.declared.fault.JobFault.TheVariants.{OutOfMemory, Output}

-- standard error while files are hashed: whether a write failed, its bytes and how many errors it has returned
pub record Speaking : Type 0 where
  pub so_far : Result (Unit {0}) Failure
  pub contents : Option (List ℕ)
  pub errors : ℕ

-- the text was written whole, or a beginning of it was, until a write failed
abbrev pub IsSaidBy : List ℕ → Option (List ℕ) → ℕ → Speaking → Type 0
IsSaidBy text old before s = MatchResult s.so_far
    (λ _. Appends old s.contents text × CountsFailure before s.errors false)
    (λ _. AppendsBeginning old s.contents text × CountsFailure before s.errors true)

-- the text was said after what had been said before
abbrev pub Says : List ℕ → Speaking → Speaking → Type 0
Says text a b = (front : List ℕ) (old : Option (List ℕ)) (before : ℕ) → IsSaidBy front old before a → IsSaidBy (front ++ text) old before b

-- the text was written whole; Output: a beginning of it was; OutOfMemory: nothing was
abbrev pub IsPut : {A : Type 0} → List ℕ → Option (List ℕ) → Option (List ℕ) → Result A JobFault → Type 0
IsPut text from to (Ok a) = Appends from to text
IsPut text from to (Err Output) = AppendsBeginning from to text
IsPut text from to (Err OutOfMemory) = Keeps from to
IsPut text from to (Err fault) = ⊥

-- the note was said if the text was written, and nothing otherwise
abbrev pub IsNoted : {A : Type 0} → List ℕ → Speaking → Speaking → Result A JobFault → Type 0
IsNoted note a b (Ok x) = Says note a b
IsNoted note a b (Err fault) = b ≡ a
