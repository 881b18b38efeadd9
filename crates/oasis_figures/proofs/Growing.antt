-- A record that breaks no rule breaks none if more is ignored.
use Rattle.std.proofs.Common.{List, ◌∷◌}
use Rattle.lvl_path.specs.declared.fault.PathFault.{PathFault}
use Rattle.lvl_path.proofs.Repeating.{fault_grows}
use Rattle.lvl_profile.specs.Ignored.{IsSubsetOf}
use Rattle.lvl_profile.specs.declared.ignore.Ignore.{Ignore}
use Rattle.oasis_records.specs.declared.record.Record.{Record}
use Rattle.oasis_records.specs.declared.record.Record.TheVariants.{Path}
use Rattle.oasis_figures.specs.Figures.{path_points}
use Rattle.oasis_figures.specs.Rules.{BreachesNone, HasPathFault}
use Rattle.oasis_figures.specs.declared.rule.FigureRule.TheVariants.{Path as PathRule}

path_grows : (less more : Ignore) → IsSubsetOf less more → (earlier : List Record) (r : Record)
    → ((f : PathFault) → ¬ HasPathFault less earlier r f) → (f : PathFault) → ¬ HasPathFault more earlier r f
path_grows less more within earlier (Path p) none f b =
    fault_grows less.points more.points within.points (path_points (Path p ∷ earlier)) _ none f b
path_grows less more within earlier _ none f b = b

pub none_grows : (less more : Ignore) → IsSubsetOf less more → (earlier : List Record) (r : Record)
    → BreachesNone less earlier r → BreachesNone more earlier r
none_grows less more within earlier r none (PathRule f) b =
    path_grows less more within earlier r (λ g. none (PathRule g)) f b
none_grows less more within earlier r none rule b = none rule b
