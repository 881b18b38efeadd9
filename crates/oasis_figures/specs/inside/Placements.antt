-- What is known of a placement when its values are.
use Rattle.std.specs.Prelude.{◌≡◌, ◌∷◌, List, Some, All}
use Rattle.lvl_grid.specs.Turn.{FitsPoint, shifted}
use Rattle.lvl_grid.specs.declared.map.Map.{Map}
use Rattle.oasis_records.specs.declared.placement.Placement.{Placement}
use Rattle.oasis_records.specs.declared.record.Record.{Record}
use Rattle.oasis_records.specs.declared.record.Record.TheVariants.{Placement as APlacement}
use Rattle.lvl_profile.specs.declared.ignore.Ignore.{Ignore}
use Rattle.oasis_figures.specs.Figures.{turn_of, shifts_of}
use Rattle.oasis_figures.specs.Modal.{placement}
use Rattle.oasis_figures.specs.Rules.{BreachesNone}

abbrev pub a_placement : Placement → Record
a_placement p = APlacement p

-- the values are those that the records give, each place fits, and no rule is breached
pub record IsResolved (earlier : List Record) (p : Placement) (by : Map) : Type 0 where
  pub flip : by.flip ≡ p.flip
  pub turn : turn_of p.transform ≡ Some by.turn
  pub at : placement (APlacement p ∷ earlier) ≡ by.at
  pub places : All (λ e. FitsPoint (shifted by.at e)) (shifts_of earlier (APlacement p))
  pub none : (ignore : Ignore) → BreachesNone ignore earlier (APlacement p)
