use Rattle.std.proofs.lemmas.Result.{err_from_is_err_and}
use Rattle.std.proofs.Common.{◌≡◌, ◌<◌, ◌++◌, ◌∷◌, [], length, true, false, sym, subst, ap, ◌∙◌, arith, ℕ, map, All}
use Rattle.std.proofs.lemmas.List.{map-append}
use Rattle.std.proofs.lemmas.List.Elements.{All-push}
use Rattle.lvl_path.specs.Bands.{band_ring, FitsBand}
use Rattle.lvl_path.specs.Runs.{is_corner, run_band}
use Rattle.lvl_path.proofs.Corners.{runs_to, at_corner, runs_at_corner, at_no_corner, runs_at_no_corner, far_refusal}
use Rattle.lvl_refusal.specs.Refused.{Says}
use Rattle.lvl_path.specs.declared.fault.PathFault.TheVariants.{OutOfRange}
use Rattle.lvl_grid.proofs.Anyone.{none_where_all}
use Rattle.lvl_path.proofs.runs.run_bands.Goals as goal

pub loop-to-preserved-then-not-is_corner : goal.loop-to-preserved-then-not-is_corner
loop-to-preserved-then-not-is_corner c =
    let kept = c.loop-to.invariant in
    let after : 0 < c.loop-to.to = omega (arith, kept.at.before) in
    let here : is_corner c.args.points.now c.loop-to.to ≡ false = sym c.is_corner.ensures ∙ c.if-not-is_corner.true in
    let same = runs_at_no_corner c.args.points.now c.loop-to.to after here in
    record {
      at = at_no_corner c.args.points.now c.loop-to.to c.loop-to.from after here kept.at;
      bands = kept.bands ∙ sym (ap (map (λ run. band_ring (run_band c.args.points.now c.args.reach.now run))) same);
      fits = subst (All (λ run. FitsBand (run_band c.args.points.now c.args.reach.now run))) (sym same) kept.fits;
    }

pub loop-to-preserved : goal.loop-to-preserved
loop-to-preserved c =
    let kept = c.loop-to.invariant in
    let after : 0 < c.loop-to.to = omega (arith, kept.at.before) in
    let here : is_corner c.args.points.now c.loop-to.to ≡ true = sym c.is_corner.ensures ∙ c.if-not-is_corner.false in
    let more = runs_at_corner c.args.points.now c.loop-to.to c.loop-to.from after here kept.at in
    record {
      at = at_corner c.args.points.now c.loop-to.to c.loop-to.from after here kept.at;
      bands =
          c.in_ok-push.ensures.items
          ∙ (ap (λ rings. rings ++ c.in_ok-ring.ring ∷ []) kept.bands
          ∙ (ap (λ ring. map (λ run. band_ring (run_band c.args.points.now c.args.reach.now run))
          (runs_to c.args.points.now c.loop-to.to) ++ ring ∷ [])
          (c.in_ok-ring.ensures.ok ∙ ap band_ring c.band.ensures)
          ∙ sym
          (ap (map (λ run. band_ring (run_band c.args.points.now c.args.reach.now run))) more
          ∙ map-append (λ run. band_ring (run_band c.args.points.now c.args.reach.now run))
          (runs_to c.args.points.now c.loop-to.to) ((c.loop-to.from, c.loop-to.to) ∷ []))));
      fits = subst (All (λ run. FitsBand (run_band c.args.points.now c.args.reach.now run))) (sym more)
          (All-push (λ run. FitsBand (run_band c.args.points.now c.args.reach.now run))
          (runs_to c.args.points.now c.loop-to.to) (c.loop-to.from, c.loop-to.to) kept.fits
          (subst FitsBand c.band.ensures c.in_ok-ring.ensures.fits));
    }

pub returns-in_err-ring-clause-err : goal.returns-in_err-ring-clause-err
returns-in_err-ring-clause-err c =
    let kept = c.loop-to.invariant in
    let after : 0 < c.loop-to.to = omega (arith, kept.at.before) in
    let here : is_corner c.args.points.now c.loop-to.to ≡ true = sym c.is_corner.ensures ∙ c.if-not-is_corner.false in
    let more = runs_at_corner c.args.points.now c.loop-to.to c.loop-to.from after here kept.at in
    let says = subst (λ b. Says c.in_err-ring.field-0.0 (λ fault. (fault ≡ OutOfRange) × ¬ FitsBand b)) c.band.ensures
    c.in_err-ring.ensures.err in
    let p = err_from_is_err_and c.from_residual-in_err-ring.result c.from_residual-in_err-ring.ensures.1 in
    rw (p.1, p.2) (far_refusal c.args.points.now c.args.reach.now c.loop-to.to c.loop-to.from after c.loop-to-test.true
    more c.in_err-ring.field-0.0 says)

pub returns-clause-fits : goal.returns-clause-fits
returns-clause-fits c =
    let kept = c.loop-to.invariant in
    let whole : c.loop-to.to ≡ length c.args.points.now = omega arith in
    none_where_all _ _ (subst (λ (k : ℕ). All (λ run. FitsBand (run_band c.args.points.now c.args.reach.now run))
    (runs_to c.args.points.now k)) whole kept.fits)
