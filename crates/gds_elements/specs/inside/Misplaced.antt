-- Refusals of records that are out of order, and of records that breach a rule.
use Rattle.std.specs.Prelude.{◌≡◌, ℕ}
use Rattle.lvl_refusal.specs.declared.Cause.{Cause}
use Rattle.lvl_refusal.specs.declared.Cause.TheVariants.{Breach, OutOfMemory}
use Rattle.gds_elements.specs.Rules.{IsKnown}
use Rattle.gds_elements.specs.declared.fault.Misplaced.{Misplaced}
use Rattle.gds_elements.specs.declared.fault.Misplaced.TheVariants.{Unexpected, Unsupported}
use Rattle.gds_elements.specs.declared.fault.ElementRule.{ElementRule}
use Rattle.gds_elements.specs.declared.fault.ElementFault.{ElementFault}
use Rattle.gds_elements.specs.declared.fault.ElementFault.TheVariants.{Misplaced as MisplacedRecord, Rule}

-- a type that is always read is Unexpected, any other Unsupported
abbrev pub IsMisplacement : ℕ → Misplaced → Type 0
IsMisplacement k (Unexpected j) = (j ≡ k) × IsKnown k
IsMisplacement k (Unsupported j) = (j ≡ k) × ¬ IsKnown k

-- the refusal says that a record of type k is out of order
abbrev pub IsMisplaced : ℕ → Cause ElementFault → Type 0
IsMisplaced k (Breach (MisplacedRecord m)) = IsMisplacement k m
IsMisplaced k (Breach (Rule r)) = ⊥
IsMisplaced k OutOfMemory = ⊥

-- the fault is a rule with the property P
abbrev pub Broken : (ElementRule → Type 0) → ElementFault → Type 0
Broken P (MisplacedRecord m) = ⊥
Broken P (Rule k) = P k

-- the refusal by a rule
abbrev pub breach : ElementRule → Cause ElementFault
breach k = Breach (Rule k)
