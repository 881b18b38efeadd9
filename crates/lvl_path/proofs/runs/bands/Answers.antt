use Rattle.std.proofs.Common.{◌<◌, ◌≡◌, lit<, ap, false, ◌↔◌, List, Any, IsTrue, sym, subst, arith}
use Rattle.lvl_grid.specs.declared.point.Point.{Point}
use Rattle.lvl_grid.specs.Winding.{Covers}
use Rattle.lvl_path.specs.declared.band.Reach.{Reach}
use Rattle.lvl_path.specs.declared.fault.PathFault.{PathFault}
use Rattle.lvl_path.specs.declared.fault.PathFault.TheVariants.{NoWidth, FewPoints, Oblique, RepeatedPoint, TurnsBack}
use Rattle.lvl_path.specs.declared.fault.PathFault.TheVariants.{ShortRun, OutOfRange}
use Rattle.lvl_refusal.specs.declared.Cause.{Cause}
use Rattle.lvl_refusal.specs.declared.Cause.TheVariants.{Breach, OutOfMemory}
use Rattle.lvl_refusal.specs.Refused.{Says}
use Rattle.lvl_path.specs.Runs.{PathCovers, HasFault, IsLowestFault, IsPath, number}
use Rattle.lvl_path.proofs.Covering.{rings_cover}
use Rattle.lvl_path.proofs.Outcomes.{IfOk-carried, IfErr-carried}
use Rattle.lvl_path.proofs.runs.bands.Goals as goal
use Rattle.lvl_path.proofs.runs.bands.Goals.{else-runs-gt1-via-then-runs-gt1+else-runs, else-runs-gt1-via-else-runs-gt1}

abbrev reach : goal.After-run_bands → Reach
reach c = record { half = c.args.half; start = c.args.start; end = c.args.end }

pub returns-clause-covers : goal.returns-clause-covers
returns-clause-covers c =
    IfOk-carried _ _ c.run_bands.result
    (λ rings same s. subst (λ (items : List (List Point)). Any (λ ring. Covers ring s) items
    ↔ PathCovers c.args.points.now (reach c) s) (sym same) (rings_cover c.args.points.now (reach c) s))
    c.run_bands.ensures.ok

untrue : IsTrue false → ⊥
untrue h = cc

-- the tests of steps and runs found no fault
none_found : (c : goal.After-run_bands) (fault : PathFault) → number fault < 7
    → ¬ HasFault c.args.points.now (reach c) fault
none_found c NoWidth l = λ e. omega (arith, e)
none_found c FewPoints l = λ e. omega (arith, e)
none_found c Oblique l = λ e. untrue (subst IsTrue c.if-has_oblique_step.false (c.has_oblique_step.ensures.1 e))
none_found c RepeatedPoint l =
    λ e. untrue (subst IsTrue c.if-has_repeated_point.false (c.has_repeated_point.ensures.1 e))
none_found c TurnsBack l = λ e. untrue (subst IsTrue c.if-turns_back.false (c.turns_back.ensures.1 e))
none_found c ShortRun l =
    λ e. elim c.else-runs-gt1.branch [
      | else-runs-gt1-via-then-runs-gt1+else-runs w ↦
          untrue (subst IsTrue w.if-runs.false (c.measure_runs-runs.ensures.short.1 e.1))
      | else-runs-gt1-via-else-runs-gt1 w ↦ omega (arith, e.0, c.measure_runs-runs.ensures.count, w.if-runs-gt1.false)
    ]
none_found c OutOfRange l = absurd (omega (arith, l))

-- if the path has neither the last fault nor any of lower number, it has none
none_left : (ps : List Point) (w : Reach) → ((fault : PathFault) → number fault < 7 → ¬ HasFault ps w fault)
    → ¬ HasFault ps w OutOfRange → IsPath ps w
none_left ps w none fits NoWidth = none NoWidth (lit< tt)
none_left ps w none fits FewPoints = none FewPoints (lit< tt)
none_left ps w none fits Oblique = none Oblique (lit< tt)
none_left ps w none fits RepeatedPoint = none RepeatedPoint (lit< tt)
none_left ps w none fits TurnsBack = none TurnsBack (lit< tt)
none_left ps w none fits ShortRun = none ShortRun (lit< tt)
none_left ps w none fits OutOfRange = fits

pub returns-clause-ok : goal.returns-clause-ok
returns-clause-ok c =
    IfOk-carried _ _ c.run_bands.result (λ rings fits. none_left c.args.points.now (reach c) (none_found c) fits)
    c.run_bands.ensures.fits

lowest : (ps : List Point) (w : Reach) → ((fault : PathFault) → number fault < 7 → ¬ HasFault ps w fault)
    → (refusal : Cause PathFault) → Says refusal (λ fault. (fault ≡ OutOfRange) × HasFault ps w fault)
    → Says refusal (IsLowestFault ps w)
lowest ps w none (Breach fault) (is, has) =
    record { breached = has; lowest = λ lower l. none lower (omega (arith, l, ap number is)) }
lowest ps w none OutOfMemory h = tt

pub returns-clause-err : goal.returns-clause-err
returns-clause-err c =
    IfErr-carried _ _ c.run_bands.result (lowest c.args.points.now (reach c) (none_found c)) c.run_bands.ensures.err
