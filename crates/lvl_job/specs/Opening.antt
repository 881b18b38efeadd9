-- What opening a file gave.
use Rattle.std.specs.Prelude.{ℕ, List, Option, Result, Ok, Err}
use Rattle.lvl_job.specs.declared.fault.JobFault.{JobFault}
use Rattle.lvl_job.specs.declared.fault.JobFault.TheVariants.{NotOpened}
use Rattle.lvl_job.specs.declared.files.OpenFault.{OpenFault}
use Rattle.lvl_job.specs.declared.files.OpenFault.TheVariants.{Other}

-- the bytes of the reader if the file was opened, Ok None if they aren't known; or why it wasn't opened
abbrev pub Opened : Type 0
Opened = Result (Option (List ℕ)) OpenFault

-- what was opened, if a reader has these bytes
abbrev pub held : {F : Type 0} → (F → Option (List ℕ)) → Result F OpenFault → Opened
held remaining (Ok file) = Ok (remaining file)
held remaining (Err why) = Err why

-- why the fault of a job says that a file wasn't opened
abbrev pub why_unopened : JobFault → OpenFault
why_unopened (NotOpened name why) = why
why_unopened fault = Other

-- what opening a file gave, as a job reports it
abbrev pub held_by_job : {F : Type 0} → (F → Option (List ℕ)) → Result F JobFault → Opened
held_by_job remaining (Ok file) = Ok (remaining file)
held_by_job remaining (Err fault) = Err (why_unopened fault)
