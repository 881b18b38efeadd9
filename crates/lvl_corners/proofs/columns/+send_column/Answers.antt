use Rattle.std.proofs.Common.{◌++◌, rules, FitsSigned, ◌-ℤ◌, ◌<ℤ◌, ◌≤ℤ◌, pos, ℤ, ◌↔◌}
use Rattle.std.specs.Int.{w64}
use Rattle.std.proofs.lemmas.Int.{to_z-of_z}
use Rattle.std.proofs.lemmas.List.Elements.{All-append}
use Rattle.lvl_grid.specs.declared.point.Square.{Square}
use Rattle.lvl_grid.specs.Winding.{SomeCovers}
use Rattle.lvl_corners.specs.Corners.{FitsCorner}
use Rattle.lvl_corners.specs.Spans.{AreCornersIn, left_part, right_part}
use Rattle.lvl_corners.proofs.Spans.{corners_of_halves}
use Rattle.lvl_corners.proofs.columns.+send_column.Goals as goal

pub returns-clause-sent : goal.returns-clause-sent
returns-clause-sent g t c =
    let at : ℤ = c.in-Some.at in
    let left = c.in_ok-send_column.ensures.sent in
    let right = c.in_ok-send_column-2.ensures.sent in
    let at_fits : FitsSigned w64 at = search rules in
    let before_fits : FitsSigned w64 (at -ℤ pos 1) = search rules in
    let on_left : (s : Square) → SomeCovers c.in_ok-left.left s ↔ ((s.x <ℤ at) × SomeCovers c.args.rings s) =
    simp to_z-of_z at c.in_ok-left.ensures in
    let on_right : (s : Square) → SomeCovers c.in_ok-right.right s ↔ (((at -ℤ pos 1) ≤ℤ s.x) × SomeCovers
    c.args.rings s) =
    simp to_z-of_z at c.in_ok-right.ensures in
    let left_corners : AreCornersIn (SomeCovers c.in_ok-left.left) (left_part c.args.span at) left.0 =
    simp to_z-of_z at (rw c.left_of.ensures at left.3) in
    let right_corners : AreCornersIn (SomeCovers c.in_ok-right.right) (right_part c.args.span at) right.0 =
    simp to_z-of_z at (rw c.right_from.ensures at right.3) in (
      left.0 ++ right.0,
      g.met.S.CornerSink.takes_both c.args.sink.now c.send_column.new.sink c.send_column-2.new.sink left.0 right.0
          left.1
          right.1,
      All-append FitsCorner left.0 right.0 left.2 right.2,
      corners_of_halves (SomeCovers c.args.rings) (SomeCovers c.in_ok-left.left) (SomeCovers c.in_ok-right.right)
          c.args.span at left.0 right.0 (record { left = on_left; right = on_right })
          (rw c.in-Some.is at c.in_ok-at.ensures.within) left_corners right_corners,
    )
