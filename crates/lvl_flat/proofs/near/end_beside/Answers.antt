use Rattle.std.proofs.Common.{ℕ, ◌<◌, All, refl, sym, subst, arith}
use Rattle.lvl_flat.specs.Boxes.{HoldsPoint}
use Rattle.lvl_flat.proofs.Replacing.{run_more, run_of_one}
use Rattle.lvl_flat.proofs.near.end_beside.Goals as goal

pub loop-end-init : goal.loop-end-init
loop-end-init c = record {
  order = omega arith;
  within = omega (arith, c.if-k-count.false);
  few = omega arith;
  all =
      subst (All (HoldsPoint c.in_ok-bounds.bounds)) (sym (run_of_one c.args.ring.now c.args.k)) c.in_ok-bounds.ensures;
  beside = c.if-not-is_placed_beside.ensures refl;
}

pub loop-end-preserved : goal.loop-end-preserved
loop-end-preserved c =
    let k : ℕ = c.args.k in
    let end : ℕ = c.loop-end.end in
    let to : ℕ = c.min-to.result in
    let later : end < to = omega (arith, c.loop-end-test, c.min-to.ensures, c.saturating_add.ensures) in
    record {
      order = omega (arith, c.loop-end.invariant.order, later);
      within = omega (arith, c.min-to.ensures);
      few = c.next_step-step.ensures c.loop-end.invariant.few;
      all =
          run_more c.args.ring.now k end to c.loop-end.bounds c.in-Some.wider
          (omega (arith, c.loop-end.invariant.order)) (omega (arith, later)) c.loop-end.invariant.all
          c.in-Some.ensures.wider c.in-Some.ensures.all;
      beside = c.in-Some.ensures.beside;
    }
