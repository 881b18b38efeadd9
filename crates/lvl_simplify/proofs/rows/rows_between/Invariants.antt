use Rattle.std.proofs.Common.{◌≡◌, ◌≢◌, ◌↔◌, ◌≤ℤ◌, ◌<ℤ◌, ℤ, pos, take}
use Rattle.lvl_grid.specs.declared.point.Square.{Square}
use Rattle.lvl_simplify.specs.Rows.{IsBetween, turning}
use Rattle.lvl_simplify.specs.Spanning.{IsWithinSome}
use Rattle.lvl_simplify.proofs.rows.rows_between.Given as goal

-- the winding from the last turn so far on, and the rows below that turn
abbrev pub invariant-loop-turn : goal.invariant-loop-turn
invariant-loop-turn l = record {
  above : (y : ℤ) → l.low ≤ℤ y → turning y (take l.turn-index l.turns) ≡ l.windings;
  below : (s : Square) → IsWithinSome l.windows.items s
      ↔ (IsBetween l.left l.right s × (s.y <ℤ l.low) × (turning s.y (take l.turn-index l.turns) ≢ pos 0));
}
