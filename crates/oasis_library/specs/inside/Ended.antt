-- Whether a fault is that the input ended.
use Rattle.std.specs.Prelude.{Bool, true, false}
use Rattle.oasis_values.specs.declared.fault.ValueFault.{ValueFault}
use Rattle.oasis_values.specs.declared.fault.ValueFault.TheVariants.{Truncated}

abbrev pub is_truncated : ValueFault → Bool
is_truncated Truncated = true
is_truncated f = false
