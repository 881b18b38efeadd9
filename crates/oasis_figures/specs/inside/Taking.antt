-- What taking a record ensures.
use Rattle.std.specs.Prelude.{◌≡◌, Bool, true, false, ◌∷◌, List, Option, Result, IfOk, IfErr, OnOk, OnErr}
use Rattle.lvl_refusal.specs.Refused.{Says}
use Rattle.lvl_refusal.specs.declared.Cause.{Cause}
use Rattle.lvl_profile.specs.declared.ignore.Ignore.{Ignore}
use Rattle.oasis_values.specs.declared.repetition.Repetition.{Repetition}
use Rattle.oasis_records.specs.declared.record.Record.{Record}
use Rattle.oasis_records.specs.declared.record.Record.TheVariants.{Placement, Rectangle, Polygon, Path, XyAbsolute}
use Rattle.oasis_records.specs.declared.record.Record.TheVariants.{XyRelative, Text}
use Rattle.oasis_figures.specs.Figures.{IsDrawn, PlacesFit, shifts_of}
use Rattle.oasis_figures.specs.Keeping.{StandsFor}
use Rattle.oasis_figures.specs.Rules.{Breaches, BreachesNone}
use Rattle.oasis_figures.specs.declared.drawn.DrawnRecord.{DrawnRecord}
use Rattle.oasis_figures.specs.declared.modal.Modal.{Modal}
use Rattle.oasis_figures.specs.declared.rule.FigureRule.{FigureRule}

-- for every list of records after which the variables have these values: the record draws what is returned and breaches
-- no rule, or it breaches the rule that is returned
pub record Takes (ignore : Ignore) (m : Modal) (r : Record) (result : Result (Option DrawnRecord) (Cause FigureRule))
    (after : Modal)
    : Type 0 where
  pub drawn : IfOk result (λ d. (earlier : List Record) → StandsFor m earlier → IsDrawn earlier r d)
  pub places : IfOk result (λ d. (earlier : List Record) → StandsFor m earlier → PlacesFit (shifts_of earlier r) d)
  pub kept : OnOk result ((earlier : List Record) → StandsFor m earlier → StandsFor after (r ∷ earlier))
  pub none : OnOk result ((earlier : List Record) → StandsFor m earlier → BreachesNone ignore earlier r)
  pub refused : IfErr result
      (λ e. Says e (λ rule. (earlier : List Record) → StandsFor m earlier → Breaches ignore earlier r rule))
  pub same : OnErr result (after ≡ m)

-- the record that sets the mode
abbrev pub mode : Bool → Record
mode true = XyRelative
mode false = XyAbsolute

-- a TEXT with that repetition
abbrev pub a_text : Option Repetition → Record
a_text r = Text r

-- the record sets no variable
abbrev pub IsOther : Record → Type 0
IsOther (Placement p) = ⊥
IsOther (Rectangle r) = ⊥
IsOther (Polygon p) = ⊥
IsOther (Path p) = ⊥
IsOther XyAbsolute = ⊥
IsOther XyRelative = ⊥
IsOther (Text r) = ⊥
IsOther r = Unit {0}
