use Rattle.std.proofs.Common.{◌≡◌, ◌+◌, ◌+ℤ◌, ◌≤ℤ◌, ℤ, ℕ, pos, List, take, get_or, cond, int_le, arith, refl}
use Rattle.std.proofs.Common.{w64, FitsSigned, rules}
use Rattle.std.proofs.lemmas.Int.{ints, to_z-of_z}
use Rattle.std.proofs.lemmas.List.{take_all, take_more}
use Rattle.lvl_simplify.specs.declared.rows.Turn.{Turn}
use Rattle.lvl_simplify.specs.Rows.{change, turning}
use Rattle.lvl_simplify.specs.Redraw.{ends_turning}
use Rattle.lvl_simplify.proofs.Turns.{turning_pushed, above_step, no_turn}
use Rattle.lvl_simplify.proofs.Capping.{kept_step, change_bounds, zero_within, kept_pushed, left_out}
use Rattle.lvl_simplify.proofs.redraw.capped.Goals.{then-is_kept+in_ok-push, else-is_kept}
use Rattle.lvl_simplify.proofs.redraw.capped.Goals as goal

pub loop-turn-init : goal.loop-turn-init
loop-turn-init c =
    rw (
      to_z-of_z w64 c.args.least c.ranges.least,
      to_z-of_z w64 c.args.most c.ranges.most,
      c.new.ensures.items,
      c.new-2.ensures.items,
    )
    (record {
      above = λ y le. refl;
      kept = λ y. zero_within c.args.least c.args.most c.requires.0 c.requires.1;
    })

pub loop-turn-preserved : goal.loop-turn-preserved
loop-turn-preserved c =
    let turns : List Turn = c.args.turns.now in
    let i : ℕ = c.loop-turn.turn-index in
    let turn : Turn = get_or turns i no_turn in
    let l = to_z-of_z w64 c.args.least c.ranges.least in
    let m = to_z-of_z w64 c.args.most c.ranges.most in
    let high_fits : FitsSigned w64 turn.y = search rules in
    let counted_fits : FitsSigned w64 c.in-Some.counted = search rules in
    let so_far = rw (l, m, c.loop-turn.low-is, c.loop-turn.windings-is) at c.loop-turn.invariant in
    let windings : ℤ = c.loop-turn.windings in
    let next = rw c.loop-turn.windings-is at c.in-Some.ensures in
    let more = λ (y : ℤ). turning_pushed y (take i turns) (take (i + 1) turns) turn
    (take_more turns i no_turn c.loop-turn-test.true) in
    let rise : c.loop-turn.low ≤ℤ turn.y = grind (arith, ints) in
    let order : c.args.least ≤ℤ c.args.most = omega (arith, ints, c.requires.0, c.requires.1) in
    let test = rw (l, m, c.loop-turn.windings-is, to_z-of_z w64 _ counted_fits) at c.is_kept.ensures in
    let pushed : (y : ℤ) → ends_turning y c.if-is_kept.ends
    ≡ ends_turning y c.loop-turn.ends
    +ℤ cond c.is_kept.result (cond (int_le turn.y y) (change turn) (pos 0)) (pos 0) = λ y.
    elim c.if-is_kept.branch [
      | then-is_kept+in_ok-push w ↦
          rw w.ends-is (kept_pushed c.is_kept.result _ _ _ w.if-is_kept.true (w.in_ok-push.ensures y))
      | else-is_kept w ↦ rw w.ends-is (left_out c.is_kept.result _ _ w.if-is_kept.false)
    ] in
    rw (l, m, to_z-of_z w64 _ high_fits, to_z-of_z w64 _ counted_fits) (record {
      above = λ y le.
          above_step y turn.y (turning y (take i turns)) (turning y (take (i + 1) turns)) windings (change turn)
          c.in-Some.counted (more y) le (so_far.above y (omega (arith, ints, rise, le))) next;
      kept = λ y.
          kept_step y turn.y c.args.least c.args.most (ends_turning y c.loop-turn.ends)
          (ends_turning y c.if-is_kept.ends) (turning y (take i turns)) (turning y (take (i + 1) turns)) windings
          (change turn) c.in-Some.counted c.is_kept.result test (change_bounds turn).0 (change_bounds turn).1 order
          (more y) (pushed y) (λ le. so_far.above y (omega (arith, ints, rise, le))) next (so_far.kept y);
    })

pub returns : goal.returns
returns c = λ y.
    let all : take c.loop-turn.turn-index c.args.turns.now ≡ c.args.turns.now =
    take_all c.loop-turn.turn-index c.args.turns.now c.loop-turn-test.false in
    rw (to_z-of_z w64 c.args.least c.ranges.least, to_z-of_z w64 c.args.most c.ranges.most, all)
    at (c.loop-turn.invariant.kept y)
