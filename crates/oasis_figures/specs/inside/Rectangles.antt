-- What is known of a rectangle when its values are.
use Rattle.std.specs.Prelude.{◌≡◌, pos, ◌∷◌, List, Some}
use Rattle.lvl_grid.specs.Turn.{shifted}
use Rattle.oasis_values.specs.Deltas.{to}
use Rattle.oasis_records.specs.declared.record.Record.{Record}
use Rattle.oasis_records.specs.declared.record.Record.TheVariants.{Rectangle as ARectangle}
use Rattle.oasis_records.specs.declared.rectangle.Rectangle.{Rectangle}
use Rattle.lvl_profile.specs.declared.ignore.Ignore.{Ignore}
use Rattle.oasis_figures.specs.Figures.{layer_by}
use Rattle.oasis_figures.specs.Modal.{modal, layer_set, datatype_set, width_set, height_set, geometry}
use Rattle.oasis_figures.specs.Rules.{BreachesNone}
use Rattle.oasis_figures.specs.declared.rectangle.Resolved.{Resolved}

abbrev pub a_rectangle : Rectangle → Record
a_rectangle r = ARectangle r

-- the values are those that the records give, and no rule is breached
pub record IsResolved (earlier : List Record) (r : Rectangle) (v : Resolved) : Type 0 where
  pub layer : modal layer_set (ARectangle r ∷ earlier) ≡ Some v.layer
  pub datatype : modal datatype_set (ARectangle r ∷ earlier) ≡ Some v.datatype
  pub width : modal width_set (ARectangle r ∷ earlier) ≡ Some v.width
  pub height : modal height_set (ARectangle r ∷ earlier) ≡ Some v.height
  pub on : v.on ≡ layer_by v.layer v.datatype
  pub low : geometry (ARectangle r ∷ earlier) ≡ v.low
  pub high : v.high ≡ shifted (to (pos v.width) (pos v.height)) v.low
  pub none : (ignore : Ignore) → BreachesNone ignore earlier (ARectangle r)
