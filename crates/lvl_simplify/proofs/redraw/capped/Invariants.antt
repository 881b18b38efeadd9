use Rattle.std.proofs.Common.{◌≡◌, ◌≤ℤ◌, ℤ, take}
use Rattle.lvl_simplify.specs.Rows.{turning}
use Rattle.lvl_simplify.specs.Redraw.{ends_turning, within}
use Rattle.lvl_simplify.proofs.redraw.capped.Given as goal

-- the winding from the last turn so far on, and in each row the clamped winding by the ends that are kept
abbrev pub invariant-loop-turn : goal.invariant-loop-turn
invariant-loop-turn l = record {
  above : (y : ℤ) → l.low ≤ℤ y → turning y (take l.turn-index l.turns) ≡ l.windings;
  kept : (y : ℤ) → ends_turning y l.ends ≡ within l.least l.most (turning y (take l.turn-index l.turns));
}
