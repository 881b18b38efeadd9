-- An input after bytes in hand were taken.
use Rattle.std.specs.Prelude.{◌≡◌, ℕ, ◌+◌, ◌≤◌, drop}
use Rattle.oasis_values.specs.Input.{in_hand, room_left}
use Rattle.oasis_values.specs.declared.input.Input.{Input}

-- n bytes in hand were taken, which are within the limit, and nothing else has changed
pub record HasMovedOn {R : Type 0} (n : ℕ) (old new : Input R) : Type 0 where
  pub had : n ≤ in_hand old
  pub within : n ≤ room_left old
  pub ahead : new.ahead ≡ drop n old.ahead
  pub offset : new.offset ≡ old.offset + n
  pub profile : new.profile ≡ old.profile
  pub failed : new.failed ≡ old.failed
  pub reader : new.reader ≡ old.reader
