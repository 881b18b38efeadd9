-- What a refusal says about the input while it is being read.
use Rattle.std.specs.Prelude.{ℕ, List, Option}
use Rattle.lvl_grammar.specs.Refused.{IsTruncated, IsUnread}
use Rattle.lvl_grammar.specs.inside.ReadTo.{IsSeenWrong}
use Rattle.lvl_profile.specs.declared.profile.Profile.{Profile}
use Rattle.oasis_values.specs.declared.fault.ValueFault.TheVariants.{Truncated, Read}
use Rattle.oasis_stream.specs.Faults.{oasis_faults}
use Rattle.oasis_stream.specs.Blocks.{cause}
use Rattle.oasis_stream.specs.declared.fault.OasisKind.{OasisKind}
use Rattle.oasis_stream.specs.declared.fault.OasisKind.TheVariants.{Value}

-- the offset and the kind are right, if the reader has these bytes left
abbrev pub RefusesAt : Profile → List ℕ → Option (List ℕ) → ℕ → OasisKind → Type 0
RefusesAt profile xs left at (Value Truncated) = IsTruncated (oasis_faults profile) xs at
RefusesAt profile xs left at (Value Read) = IsUnread (oasis_faults profile) xs left at
RefusesAt profile xs left at k = IsSeenWrong (oasis_faults profile) xs at left (cause k)
