use Rattle.std.proofs.Common.{◌≡◌, ◌<◌, ◌+◌, length, true, false, sym, ap, ◌∙◌, arith, length-append}
use Rattle.lvl_path.specs.Runs.{is_corner, run_length}
use Rattle.lvl_path.proofs.Corners.{runs_to, at_corner, runs_at_corner, at_no_corner, runs_at_no_corner}
use Rattle.lvl_grid.proofs.Anyone.{either_any}
use Rattle.lvl_path.proofs.runs.measure_runs.Goals as goal

pub loop-to-preserved-then-not-is_corner : goal.loop-to-preserved-then-not-is_corner
loop-to-preserved-then-not-is_corner c =
    let kept = c.loop-to.invariant in
    let after : 0 < c.loop-to.to = omega (arith, kept.at.before) in
    let here : is_corner c.args.points.now c.loop-to.to ≡ false = sym c.is_corner.ensures ∙ c.if-not-is_corner.true in
    let same = runs_at_no_corner c.args.points.now c.loop-to.to after here in
    record {
      at = at_no_corner c.args.points.now c.loop-to.to c.loop-to.from after here kept.at;
      few = omega (arith, kept.few);
      count = kept.count ∙ sym (ap length same);
      short = rw same kept.short;
    }

pub loop-to-preserved : goal.loop-to-preserved
loop-to-preserved c =
    let kept = c.loop-to.invariant in
    let after : 0 < c.loop-to.to = omega (arith, kept.at.before) in
    let here : is_corner c.args.points.now c.loop-to.to ≡ true = sym c.is_corner.ensures ∙ c.if-not-is_corner.false in
    let more = runs_at_corner c.args.points.now c.loop-to.to c.loop-to.from after here kept.at in
    record {
      at = at_corner c.args.points.now c.loop-to.to c.loop-to.from after here kept.at;
      few = omega (arith, kept.few);
      count = rw (more, length-append) (ap (λ n. n + 1) kept.count);
      short = rw more
          (either_any (λ run. run_length c.args.points.now run < c.args.half) (runs_to c.args.points.now c.loop-to.to)
          (c.loop-to.from, c.loop-to.to) c.loop-to.measured.some_short c.is_short.result kept.short
          c.is_short.ensures);
    }
