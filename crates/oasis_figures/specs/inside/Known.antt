-- What is known of a record before its position is tested.
use Rattle.std.specs.Prelude.{◌≡◌, ◌∷◌, List, None}
use Rattle.oasis_records.specs.declared.record.Record.{Record}
use Rattle.oasis_figures.specs.Rules.{first_undefined, is_defined, taken, HasWideLayer}

abbrev pub AreDefined : List Record → Record → Type 0
AreDefined earlier r = first_undefined (is_defined (r ∷ earlier)) (taken r) ≡ None

-- each variable that the record needs has a value, and its layer and datatype fit in 32 bits
pub record IsKnown (earlier : List Record) (r : Record) : Type 0 where
  pub defined : AreDefined earlier r
  pub narrow : ¬ HasWideLayer earlier r
