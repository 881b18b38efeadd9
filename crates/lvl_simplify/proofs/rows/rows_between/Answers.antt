use Rattle.std.proofs.Common.{◌≡◌, ◌≢◌, ◌↔◌, ◌⊎◌, ◌+◌, ◌≤ℤ◌, ◌<ℤ◌, ℤ, pos, List, take, get_or, inl, inr}
use Rattle.std.proofs.Common.{◌∙◌, arith, w64, FitsSigned, rules}
use Rattle.std.proofs.lemmas.Int.{ints, to_z-of_z, by_lt_z}
use Rattle.std.proofs.lemmas.List.{take_all, take_more}
use Rattle.lvl_grid.specs.declared.point.Square.{Square}
use Rattle.lvl_simplify.specs.declared.rows.Turn.{Turn}
use Rattle.lvl_simplify.specs.Rows.{IsBetween, change, turning}
use Rattle.lvl_simplify.specs.Spanning.{IsWithinSome}
use Rattle.lvl_simplify.proofs.Turns.{turning_pushed, row_pushed, rows_step, above_step, no_turn}
use Rattle.lvl_simplify.proofs.rows.rows_between.Goals.{then-windings-ne0+in_ok-push, else-windings-ne0}
use Rattle.lvl_simplify.proofs.rows.rows_between.Goals as goal

pub loop-turn-preserved : goal.loop-turn-preserved
loop-turn-preserved c =
    let turns : List Turn = c.args.turns.now in
    let i = c.loop-turn.turn-index in
    let turn : Turn = get_or turns i no_turn in
    let l = to_z-of_z w64 c.args.left c.ranges.left in
    let r = to_z-of_z w64 c.args.right c.ranges.right in
    let high_fits : FitsSigned w64 turn.y = search rules in
    let counted_fits : FitsSigned w64 c.in-Some.counted = search rules in
    let so_far = rw (l, r, c.loop-turn.low-is, c.loop-turn.windings-is) at c.loop-turn.invariant in
    let low : ℤ = c.loop-turn.low in
    let windings : ℤ = c.loop-turn.windings in
    let next = rw c.loop-turn.windings-is at c.in-Some.ensures in
    let more = λ (y : ℤ). turning_pushed y (take i turns) (take (i + 1) turns) turn
    (take_more turns i no_turn c.loop-turn-test.true) in
    let rise : low ≤ℤ turn.y = grind (arith, ints) in
    let pushed : (s : Square) → IsWithinSome c.if-windings-ne0.windows.items s
    ↔ (IsWithinSome c.loop-turn.windows.items s
    ⊎ ((windings ≢ pos 0) × (IsBetween c.args.left c.args.right s × (low ≤ℤ s.y) × (s.y <ℤ turn.y)))) = λ s.
    elim c.if-windings-ne0.branch [
      | then-windings-ne0+in_ok-push w ↦
          let winds : windings ≢ pos 0 = grind (arith, ints) in
          let one = row_pushed c.args.left c.args.right low turn.y c.loop-turn.windows.items w.push.new.self.items s
          (rw (l, r, c.loop-turn.low-is, to_z-of_z w64 _ high_fits) at w.in_ok-push.ensures.items) in
          rw w.windows-is (
            λ n. elim (one.0 n) [ inl o ↦ inl o | inr h ↦ inr (winds, h) ],
            λ k. elim k [ inl o ↦ one.1 (inl o) | inr h ↦ one.1 (inr h.1) ],
          )
      | else-windings-ne0 w ↦
          let none : windings ≡ pos 0 = grind (arith, ints) in
          rw w.windows-is (λ n. inl n, λ k. elim k [ inl o ↦ o | inr h ↦ absurd (h.0 none) ])
    ] in
    rw (l, r, to_z-of_z w64 _ high_fits, to_z-of_z w64 _ counted_fits) (record {
      above = λ y le.
          above_step y turn.y (turning y (take i turns)) (turning y (take (i + 1) turns)) windings (change turn)
          c.in-Some.counted (more y) le (so_far.above y (omega (arith, ints, rise, le))) next;
      below = λ s.
          rows_step s.y low turn.y (turning s.y (take i turns)) (turning s.y (take (i + 1) turns)) windings
          (change turn) (more s.y) rise (so_far.above s.y) (pushed s) (so_far.below s);
    })

pub returns : goal.returns
returns c = λ s.
    let turns : List Turn = c.args.turns.now in
    let l = to_z-of_z w64 c.args.left c.ranges.left in
    let r = to_z-of_z w64 c.args.right c.ranges.right in
    let all : take c.loop-turn.turn-index turns ≡ turns =
    take_all c.loop-turn.turn-index turns c.loop-turn-test.false in
    let so_far = rw (l, r, c.loop-turn.low-is, c.loop-turn.windings-is, all) at c.loop-turn.invariant in
    let below = so_far.below s in
    let none : c.loop-turn.windings ≡ pos 0 = grind (arith, ints) in (
      λ n. let h = below.0 n in (h.0, h.2),
      λ h. by_lt_z s.y c.loop-turn.low (λ lt. below.1 (h.0, lt, h.1))
          (λ ge. absurd (h.1 (so_far.above s.y ge ∙ none))),
    )
