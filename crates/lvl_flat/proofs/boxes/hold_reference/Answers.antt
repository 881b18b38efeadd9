use Rattle.std.proofs.Common.{All, get_or, refl, subst}
use Rattle.lvl_grid.specs.declared.point.Point.{Point}
use Rattle.lvl_grid.specs.declared.map.Map.{Map}
use Rattle.lvl_grid.specs.Turn.{image, shifted}
use Rattle.lvl_cells.specs.Cells.{PlainReference}
use Rattle.lvl_flat.specs.Boxes.{HoldsPoint}
use Rattle.lvl_flat.specs.inside.Passing.{before_shifts}
use Rattle.lvl_flat.proofs.Holding.{moved_place}
use Rattle.lvl_flat.proofs.boxes.hold_reference.Goals as goal

pub returns-clause-held : goal.returns-clause-held
returns-clause-held c = λ p within k e lt.
    let r : PlainReference = c.args.reference.now in
    let m : Map = before_shifts r in
    let d : Point = get_or r.shifts k e in
    let shifts : All (HoldsPoint c.bounds_of_places.result) r.shifts = c.bounds_of_places.ensures in
    let there : HoldsPoint c.joined.result (shifted d (image m p)) =
    c.joined.ensures.second.holds _
    (c.in_ok-everywhere.ensures (image m p) d (c.in_ok-placed.ensures p within) (shifts k e lt)) in
    subst (HoldsPoint c.joined.result) (moved_place r m d p refl refl refl) there
