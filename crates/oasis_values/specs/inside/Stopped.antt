-- An input after a failed allocation: later calls fail, and nothing else has changed.
use Rattle.std.specs.Prelude.{◌≡◌, true}
use Rattle.oasis_values.specs.declared.input.Input.{Input}

-- later calls fail, and nothing else has changed
pub record HasStopped {R : Type 0} (old new : Input R) : Type 0 where
  pub failed : new.failed ≡ true
  pub ahead : new.ahead ≡ old.ahead
  pub offset : new.offset ≡ old.offset
  pub profile : new.profile ≡ old.profile
  pub reader : new.reader ≡ old.reader
