-- Why a record outside of elements is refused.
use Rattle.std.specs.Prelude.{◌≡◌, ◌≢◌, ℕ, ◌<◌, ◌≤◌, List, length, None}
use Rattle.gds_elements.specs.Types.{header, units, bgnstr, strname}
use Rattle.gds_elements.specs.Values.{name}
use Rattle.lvl_names.specs.Names.{IsName}
use Rattle.gds_elements.specs.inside.Misplaced.{IsMisplacement}
use Rattle.gds_elements.specs.declared.fault.ElementFault.{ElementFault}
use Rattle.gds_elements.specs.declared.fault.ElementFault.TheVariants.{Misplaced as MisplacedInElement, Rule}
use Rattle.lvl_refusal.specs.declared.Cause.{Cause}
use Rattle.lvl_refusal.specs.declared.Cause.TheVariants.{Breach, OutOfMemory}
use Rattle.gds_library.specs.inside.Stage.{after}
use Rattle.gds_library.specs.declared.fault.GdsKind.{GdsKind}
use Rattle.gds_library.specs.declared.fault.GdsKind.TheVariants.{Misplaced, Element, Name, TooManyCells}
use Rattle.gds_library.specs.declared.stage.LibraryStage.{LibraryStage}
use Rattle.lvl_profile.specs.declared.limits.Limits.{Limits}

-- the type is below 60, and the payload has the length that its type has
pub record IsFormed (k : ℕ) (payload : List ℕ) : Type 0 where
  pub known : k < 60
  pub header : k ≡ header → length payload ≡ 2
  pub units : k ≡ units → length payload ≡ 16

-- a fault of an element, as one of a library
abbrev pub lifted : ElementFault → GdsKind
lifted (MisplacedInElement m) = Misplaced m
lifted (Rule k) = Element k

abbrev pub lifted_refusal : Cause ElementFault → Cause GdsKind
lifted_refusal (Breach f) = Breach (lifted f)
lifted_refusal OutOfMemory = OutOfMemory

-- the rule that a record of type k breaches at a place, after n cells
abbrev pub IsFault : Limits → LibraryStage → ℕ → ℕ → List ℕ → GdsKind → Type 0
IsFault limits p n k payload (Misplaced m) = IsMisplacement k m × (after p k ≡ None)
IsFault limits p n k payload Name = (k ≡ strname) × (after p k ≢ None) × ¬ IsName (name payload)
IsFault limits p n k payload TooManyCells = (k ≡ bgnstr) × (after p k ≢ None) × (limits.cells ≤ n)
IsFault limits p n k payload f = ⊥

-- the record breaches no rule there, if it may come
pub record IsAllowed (limits : Limits) (n k : ℕ) (payload : List ℕ) : Type 0 where
  pub name : k ≡ strname → IsName (name payload)
  pub cells : k ≡ bgnstr → n < limits.cells
