-- What a refusal says about the input (own rule).
use Rattle.std.specs.Prelude.{ℕ, Bool, false, List}
use Rattle.lvl_grammar.specs.Refused.{IsFrontAt, IsStuck, IsBreached, IsTruncated}
use Rattle.lvl_profile.specs.declared.profile.Profile.{Profile}
use Rattle.oasis_values.specs.Faults.{is_read_fault}
use Rattle.oasis_values.specs.declared.fault.ValueFault.TheVariants.{Truncated, Read}
use Rattle.oasis_stream.specs.Front.{oasis}
use Rattle.oasis_stream.specs.Faults.{oasis_faults}
use Rattle.oasis_stream.specs.Blocks.{cause}
use Rattle.oasis_stream.specs.declared.fault.OasisKind.{OasisKind}
use Rattle.oasis_stream.specs.declared.fault.OasisKind.TheVariants.{Value}

-- the offset and the kind are right: the bytes before the offset are a front, and the kind says why no longer front
-- agrees with the input, or that the input ends there, or that the reader failed
abbrev pub ReportsAt : Profile → List ℕ → ℕ → OasisKind → Type 0
ReportsAt profile xs at (Value Truncated) = IsTruncated (oasis_faults profile) xs at
ReportsAt profile xs at (Value Read) = IsFrontAt (oasis profile) xs at
ReportsAt profile xs at k = IsStuck (oasis profile) xs at × IsBreached (oasis_faults profile) xs at (cause k)

-- whether the fault is that the reader failed
abbrev pub is_read_kind : OasisKind → Bool
is_read_kind (Value f) = is_read_fault f
is_read_kind k = false
