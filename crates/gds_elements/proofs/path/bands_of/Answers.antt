use Rattle.std.proofs.Common.{◌≡◌, ◌∙◌, ◌≤◌, ℕ, Some, List, length, sym, ap, subst, arith}
use Rattle.lvl_grid.specs.declared.point.Point.{Point}
use Rattle.lvl_path.specs.Repeats.{asked}
use Rattle.lvl_path.specs.Runs.{IsPath, IsLowestFault}
use Rattle.gds_elements.specs.Values.{points}
use Rattle.gds_elements.specs.inside.Path.{reach_at}
use Rattle.gds_elements.proofs.path.bands_of.Goals as goal

pub returns-in-Ok-clause-allowed : goal.returns-in-Ok-clause-allowed
returns-in-Ok-clause-allowed c = λ h e.
    let ps = asked c.args.ignored (points c.args.payload.now) in
    let known : c.in-Some.half ≡ h = (let z : Some c.in-Some.half ≡ Some h = sym c.in-Some.is ∙ e in cc) in
    let at = ap (asked c.args.ignored) c.in_ok-points.ensures in
    let o =
    subst (λ (qs : List Point). IsPath qs (record {
      half = c.in-Some.half;
      start = c.end_reach-reach.result;
      end = c.end_reach-reach.result;
    })) at c.in-Ok.ensures.ok in
    let q = subst (λ (n : ℕ). IsPath ps (record { half = c.in-Some.half; start = n; end = n }))
    c.end_reach-reach.ensures o in
    subst (λ (n : ℕ). IsPath ps (record { half = n; start = reach_at c.args.square n; end = reach_at c.args.square n }))
    known q

pub returns-in-Err-Breach-clause-refused : goal.returns-in-Err-Breach-clause-refused
returns-in-Err-Breach-clause-refused c =
    let ps = asked c.args.ignored (points c.args.payload.now) in
    let at = ap (asked c.args.ignored) c.in_ok-points.ensures in
    let low = rw c.in-Err-Breach.field-0-is at c.in-Err-Breach.ensures.err in
    let o =
    subst (λ (qs : List Point). IsLowestFault qs
    (record { half = c.in-Some.half; start = c.end_reach-reach.result; end = c.end_reach-reach.result })
    c.in-Err-Breach.fault) at low in
    let q = subst (λ (n : ℕ). IsLowestFault ps (record { half = c.in-Some.half; start = n; end = n })
    c.in-Err-Breach.fault) c.end_reach-reach.ensures o in
    let n : 2 ≤ length (points c.args.payload.now) =
    omega (arith, c.if-len-lt-FEWEST_POINTS.false, c.len.ensures, ap length c.in_ok-points.ensures) in
    rw c.breach-in-Err-Breach.ensures (n, c.in-Some.half, c.in-Some.is, q)
