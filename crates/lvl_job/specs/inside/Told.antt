-- What a job on several files returns, before its end is said.
use Rattle.std.specs.Prelude.{◌≡◌, ℕ, Bool, List, Option, Result, Ok, Err, IfOk, IfErr, String}
use Rattle.std.specs.Global.{Global}
use Rattle.lvl_list.specs.declared.entry.Entry.{Entry}
use Rattle.lvl_profile.specs.declared.profile.Profile.{Profile}
use Rattle.lvl_report.specs.declared.outcome.Outcome.{Outcome}
use Rattle.lvl_job.specs.declared.checking.Tally.{Tally}
use Rattle.lvl_job.specs.declared.fault.JobFault.{JobFault}
use Rattle.lvl_job.specs.declared.fault.JobFault.TheVariants.{OutOfMemory}
use Rattle.lvl_job.specs.Listing.{checked_text, ended_with, file_of_entry, no_note, summary_text}
use Rattle.lvl_job.specs.inside.Loops.{IsLoopFault}
use Rattle.lvl_job.specs.Done.{IsCheckFault, IsChecked, IsListFault, IsListed, OfList}
use Rattle.lvl_job.specs.Jobs.{UnderProfile}
use Rattle.lvl_job.specs.inside.Steps.{Says, Speaking}
use Rattle.lvl_job.specs.Opening.{Opened}

-- the files were listed, or this is why not all of them were; and this was said
pub record IsListTold {S : Type 0} (opens : S → List ℕ → Opened → S → Type 0)
    (names : List (String Global)) (top : Option (List ℕ)) (ignored : Option (String Global)) (large unpack : Bool)
    (old new : S) (from to : Option (List ℕ)) (a b : Speaking) (r : Result Outcome JobFault) : Type 0 where
  pub said : List ℕ
  pub listed : IfOk r (λ outcome. UnderProfile ignored large unpack (λ profile.
      IsListed opens names profile top old new from to said outcome))
  pub fault : IfErr r (IsListFault opens names top ignored large unpack old new from to said)
  pub told : Says said a b

-- how a check ends whose files were checked: its summary was said, or there was no memory for it
abbrev pub IsSummary : Tally → ℕ → Speaking → Speaking → Result Outcome JobFault → Type 0
IsSummary tally all a b (Ok outcome) = (outcome ≡ ended_with tally.status) × Says (summary_text tally.unlike all) a b
IsSummary tally all a b (Err fault) = (fault ≡ OutOfMemory) × (b ≡ a)

-- the files of the entries were checked, or this is why not all of them were; and this was said
pub record IsEntriesTold {S : Type 0} (opens : S → List ℕ → Opened → S → Type 0)
    (entries : List Entry) (quiet : Bool) (profile : Profile) (top : Option (List ℕ)) (old new : S)
    (from to : Option (List ℕ)) (a b : Speaking) (r : Result Outcome JobFault) : Type 0 where
  pub said : List ℕ
  pub checked : IfOk r (λ outcome. IsChecked opens quiet profile top new from to said outcome old entries)
  pub fault : IfErr r
      (IsLoopFault opens (file_of_entry profile top) (checked_text quiet) no_note entries old new from to said)
  pub told : Says said a b

-- the files of a list were checked, or this is why not all of them were; and this was said
pub record IsCheckTold {S : Type 0} (opens : S → List ℕ → Opened → S → Type 0) (list : List ℕ)
    (quiet : Bool) (top : Option (List ℕ)) (ignored : Option (String Global)) (large unpack : Bool)
    (old new : S) (from to : Option (List ℕ)) (a b : Speaking) (r : Result Outcome JobFault) : Type 0 where
  pub said : List ℕ
  pub checked : IfOk r (λ outcome. UnderProfile ignored large unpack (λ profile. OfList opens list old
      (IsChecked opens quiet profile top new from to said outcome)))
  pub fault : IfErr r (IsCheckFault opens list quiet top ignored large unpack old new from to said)
  pub told : Says said a b
