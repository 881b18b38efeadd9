-- What a refusal says about the input while it is being read.
use Rattle.std.specs.Prelude.{ℕ, List, Option}
use Rattle.lvl_refusal.specs.declared.Cause.{Cause}
use Rattle.lvl_refusal.specs.declared.Cause.TheVariants.{Breach, OutOfMemory}
use Rattle.lvl_profile.specs.declared.profile.Profile.{Profile}
use Rattle.oasis_stream.specs.declared.fault.OasisKind.{OasisKind}
use Rattle.oasis_stream.specs.inside.Refuses.{RefusesAt}
use Rattle.oasis_library.specs.Ends.{ReportsUnresolved}
use Rattle.oasis_library.specs.declared.fault.OasisFault.{OasisFault}
use Rattle.oasis_library.specs.declared.fault.OasisFault.TheVariants.{At, Unresolved}

-- the fault and its offset are right, if the reader has these bytes left
abbrev pub Refuses : Profile → List ℕ → Option (List ℕ) → OasisFault → Type 0
Refuses profile xs left (At at k) = RefusesAt profile xs left at k
Refuses profile xs left (Unresolved n) = ReportsUnresolved profile xs n

-- a refusal, with an offset
abbrev pub refused_at : ℕ → Cause OasisKind → Cause OasisFault
refused_at at (Breach k) = Breach (At at k)
refused_at at OutOfMemory = OutOfMemory
