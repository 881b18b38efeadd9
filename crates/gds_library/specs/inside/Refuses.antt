-- What a refusal says about the input while it is being read.
use Rattle.std.specs.Prelude.{ℕ, List, Option}
use Rattle.lvl_profile.specs.declared.profile.Profile.{Profile}
use Rattle.lvl_grammar.specs.Refused.{IsTruncated, IsUnread}
use Rattle.lvl_grammar.specs.inside.ReadTo.{IsSeenWrong}
use Rattle.gds_records.specs.declared.fault.RecordFault.TheVariants.{Truncated, Read}
use Rattle.gds_library.specs.Faults.{gds_faults}
use Rattle.gds_library.specs.declared.fault.GdsKind.{GdsKind}
use Rattle.gds_library.specs.declared.fault.GdsKind.TheVariants.{Record}
use Rattle.gds_library.specs.declared.fault.GdsFault.{GdsFault}

-- the fault and its offset are right, if the reader has these bytes left
abbrev pub RefusesAt : Profile → List ℕ → Option (List ℕ) → ℕ → GdsKind → Type 0
RefusesAt profile xs left at (Record Truncated) = IsTruncated (gds_faults profile) xs at
RefusesAt profile xs left at (Record Read) = IsUnread (gds_faults profile) xs left at
RefusesAt profile xs left at k = IsSeenWrong (gds_faults profile) xs at left k

abbrev pub Refuses : Profile → List ℕ → Option (List ℕ) → GdsFault → Type 0
Refuses profile xs left f = RefusesAt profile xs left f.offset f.kind
