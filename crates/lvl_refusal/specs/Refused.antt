-- What a refusal means.
use Rattle.lvl_refusal.specs.declared.Cause.{Cause}
use Rattle.lvl_refusal.specs.declared.Cause.TheVariants.{Breach, OutOfMemory}

-- P holds of the rule that is breached; a failed allocation means nothing
abbrev pub Says : {F : Type 0} → Cause F → (F → Type 0) → Type 0
Says (Breach f) P = P f
Says OutOfMemory P = Unit {0}
