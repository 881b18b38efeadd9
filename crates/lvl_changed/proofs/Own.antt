-- What the own shapes of a cell cover, in terms of flat layouts.
use Rattle.std.proofs.Common.{◌≡◌, Option, Some, None, refl}
use Rattle.std.specs.Prelude.{IfSome}

-- what holds of each value of an option holds of its value
pub some_then : {X : Type 0} (o : Option X) (P : X → Type 0) → ((x : X) → o ≡ Some x → P x) → IfSome o P
some_then None P each = tt
some_then (Some x) P each = each x refl
