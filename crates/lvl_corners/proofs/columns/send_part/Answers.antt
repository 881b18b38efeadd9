use Rattle.std.proofs.Common.{◌++◌, rules, FitsSigned, ◌-ℤ◌, ◌<ℤ◌, ◌≤ℤ◌, pos, ℤ, ◌↔◌}
use Rattle.std.specs.Int.{w64}
use Rattle.std.proofs.lemmas.Int.{to_z-of_z}
use Rattle.std.proofs.lemmas.List.Elements.{All-append}
use Rattle.std.proofs.lemmas.Result.{on_ok_weaker}
use Rattle.lvl_grid.specs.declared.point.Square.{Square}
use Rattle.lvl_grid.specs.Winding.{SomeCovers}
use Rattle.lvl_grid.specs.Clip.{IsIn}
use Rattle.lvl_corners.specs.Corners.{FitsCorner}
use Rattle.lvl_corners.specs.Spans.{AreCornersIn, left_part, right_part}
use Rattle.lvl_corners.proofs.Spans.{corners_of_halves, corners_same, half_of}
use Rattle.lvl_corners.proofs.columns.send_part.Goals as goal

pub returns-clause-sent : goal.returns-clause-sent
returns-clause-sent g c =
    let P : Square → Type 0 = λ s. IsIn c.args.part.now s × SomeCovers c.args.rings.now s in
    let at : ℤ = c.in-Some.at in
    let left = c.in_ok-send_column.ensures.sent in
    let right = c.in_ok-send_column-2.ensures.sent in
    let at_fits : FitsSigned w64 at = search rules in
    let before_fits : FitsSigned w64 (at -ℤ pos 1) = search rules in
    let half_left : (s : Square) → SomeCovers c.in_ok-left.left s ↔ ((s.x <ℤ at) × SomeCovers c.in_ok-column.column s) =
    simp to_z-of_z at c.in_ok-left.ensures in
    let half_right : (s : Square) → SomeCovers c.in_ok-right.right s
    ↔ (((at -ℤ pos 1) ≤ℤ s.x) × SomeCovers c.in_ok-column-2.column s) =
    simp to_z-of_z at c.in_ok-right.ensures in
    let left_corners : AreCornersIn (SomeCovers c.in_ok-left.left) (left_part c.args.span at) left.0 =
    simp to_z-of_z at (rw c.left_of.ensures at left.3) in
    let right_corners : AreCornersIn (SomeCovers c.in_ok-right.right) (right_part c.args.span at) right.0 =
    simp to_z-of_z at (rw c.right_from.ensures at right.3) in (
      left.0 ++ right.0,
      g.met.S.CornerSink.takes_both c.args.sink.now c.send_column.new.sink c.send_column-2.new.sink left.0 right.0
          left.1
          right.1,
      All-append FitsCorner left.0 right.0 left.2 right.2,
      corners_of_halves P (SomeCovers c.in_ok-left.left) (SomeCovers c.in_ok-right.right) c.args.span at left.0
          right.0
          (record {
            left = λ s. half_of _ _ _ _ (half_left s) (c.in_ok-column.ensures s);
            right = λ s. half_of _ _ _ _ (half_right s) (c.in_ok-column-2.ensures s);
          })
          (rw c.in-Some.is at c.in_ok-at.ensures.within) left_corners right_corners,
    )

pub returns-in_default-clause-sent : goal.returns-in_default-clause-sent
returns-in_default-clause-sent g c =
    let P : Square → Type 0 = λ s. IsIn c.args.part.now s × SomeCovers c.args.rings.now s in
    on_ok_weaker c.send_swept.result
    (λ sent. (
      sent.0,
      sent.1,
      sent.2,
      corners_same (SomeCovers c.in_ok-column.column) P c.args.span sent.0 c.in_ok-column.ensures sent.3,
    )) c.send_swept.ensures
