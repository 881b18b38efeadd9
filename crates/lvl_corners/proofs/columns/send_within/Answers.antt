use Rattle.std.proofs.Common.{◌++◌, rules, FitsSigned, ◌-ℤ◌, ◌<ℤ◌, ◌≤ℤ◌, pos, ℤ}
use Rattle.std.specs.Int.{w64}
use Rattle.std.proofs.lemmas.Int.{to_z-of_z}
use Rattle.std.proofs.lemmas.List.Elements.{All-append}
use Rattle.lvl_grid.specs.declared.point.Square.{Square}
use Rattle.lvl_grid.specs.Winding.{SomeCovers}
use Rattle.lvl_corners.specs.Corners.{FitsCorner}
use Rattle.lvl_corners.specs.Spans.{AreCornersIn, left_part, right_part}
use Rattle.lvl_corners.proofs.Spans.{corners_of_halves}
use Rattle.lvl_corners.proofs.columns.send_within.Goals as goal

pub returns-clause-sent : goal.returns-clause-sent
returns-clause-sent g c =
    let P : Square → Type 0 = SomeCovers c.args.rings.now in
    let at : ℤ = c.in-Some.at in
    let L : Square → Type 0 = λ s. (s.x <ℤ at) × P s in
    let R : Square → Type 0 = λ s. ((at -ℤ pos 1) ≤ℤ s.x) × P s in
    let left = c.in_ok-send_part.ensures.sent in
    let right = c.in_ok-send_part-2.ensures.sent in
    let at_fits : FitsSigned w64 at = search rules in
    let before_fits : FitsSigned w64 (at -ℤ pos 1) = search rules in
    let left_corners : AreCornersIn L (left_part c.args.span at) left.0 =
    simp to_z-of_z at (rw c.left_of.ensures at left.3) in
    let right_corners : AreCornersIn R (right_part c.args.span at) right.0 =
    simp to_z-of_z at (rw c.right_from.ensures at right.3) in (
      left.0 ++ right.0,
      g.met.S.CornerSink.takes_both c.args.sink.now c.send_part.new.sink c.send_part-2.new.sink left.0 right.0 left.1
          right.1,
      All-append FitsCorner left.0 right.0 left.2 right.2,
      corners_of_halves P L R c.args.span at left.0 right.0
          (record { left = λ s. (λ h. h, λ h. h); right = λ s. (λ h. h, λ h. h) })
          (rw c.in-Some.is at c.in_ok-at.ensures.within) left_corners right_corners,
    )
