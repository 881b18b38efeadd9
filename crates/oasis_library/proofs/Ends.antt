-- The fault that the input ended.
use Rattle.std.proofs.Common.{◌≡◌, true, false, refl, sym, ap, ◌∙◌}
use Rattle.oasis_values.specs.declared.fault.ValueFault.{ValueFault}
use Rattle.oasis_values.specs.declared.fault.ValueFault.TheVariants.{Truncated}
use Rattle.oasis_library.specs.inside.Ended.{is_truncated}

pub truncated_is : (f : ValueFault) → is_truncated f ≡ true → f ≡ Truncated
truncated_is Truncated h = refl
truncated_is _ h = cc

pub other_fault : (f : ValueFault) → is_truncated f ≡ false → f ≡ Truncated → ⊥
other_fault f h e = (let z : false ≡ true = sym h ∙ ap is_truncated e in cc)
