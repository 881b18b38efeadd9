-- Laws of what a refusal means.
use Rattle.lvl_refusal.specs.declared.Cause.{Cause}
use Rattle.lvl_refusal.specs.declared.Cause.TheVariants.{Breach, OutOfMemory}
use Rattle.lvl_refusal.specs.Refused.{Says}

pub Says-map : {F : Type 0} (P Q : F → Type 0) (r : Cause F) → ((f : F) → P f → Q f) → Says r P → Says r Q
Says-map P Q (Breach f) step h = step f h
Says-map P Q OutOfMemory step h = tt
