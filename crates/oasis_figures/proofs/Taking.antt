-- What taking a record ensures if it is refused.
use Rattle.std.proofs.Common.{◌≡◌, List, Option, Result, Ok, Err, refl, sym, subst}
use Rattle.std.specs.Result.{IsErr, IsErrAnd}
use Rattle.lvl_refusal.specs.Refused.{Says}
use Rattle.lvl_refusal.specs.declared.Cause.{Cause}
use Rattle.lvl_profile.specs.declared.ignore.Ignore.{Ignore}
use Rattle.oasis_records.specs.declared.record.Record.{Record}
use Rattle.oasis_figures.specs.Keeping.{StandsFor}
use Rattle.oasis_figures.specs.Rules.{Breaches}
use Rattle.oasis_figures.specs.declared.drawn.DrawnRecord.{DrawnRecord}
use Rattle.oasis_figures.specs.declared.modal.Modal.{Modal}
use Rattle.oasis_figures.specs.declared.rule.FigureRule.{FigureRule}
use Rattle.oasis_figures.specs.inside.Taking.{Takes}

-- the rule is breached after all records with which the variables agree
abbrev pub BreachesAfter : Ignore → Modal → Record → FigureRule → Type 0
BreachesAfter ignore m r rule = (earlier : List Record) → StandsFor m earlier → Breaches ignore earlier r rule

pub takes_refused : (ignore : Ignore) (m : Modal) (r : Record) (result : Result (Option DrawnRecord) (Cause FigureRule))
    (e : Cause FigureRule)
    → IsErr result × IsErrAnd result (λ x. x ≡ e) → Says e (BreachesAfter ignore m r) → Takes ignore m r result m
takes_refused ignore m r (Ok d) e h s = absurd h.1
takes_refused ignore m r (Err x) e h s = record {
  drawn = tt;
  places = tt;
  kept = tt;
  none = tt;
  refused = subst (λ (y : Cause FigureRule). Says y (BreachesAfter ignore m r)) (sym h.1) s;
  same = refl;
}
