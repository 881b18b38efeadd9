use Rattle.std.proofs.Common.{◌≡◌, ◌∙◌, List, Some, ap, arith, length, map, slice_get, subst, sym}
use Rattle.std.proofs.lemmas.List.{length_push, take_all}
use Rattle.lvl_grid.specs.declared.point.Point.{Point}
use Rattle.lvl_grid.specs.Placed.{placed_point}
use Rattle.lvl_cells.specs.Cells.{shape_at}
use Rattle.lvl_flat.specs.declared.scope.Scope.TheVariants.{Everything}
use Rattle.lvl_flat.specs.inside.Drawn.{IsRingDrawn}
use Rattle.lvl_flat.specs.inside.Scopes.{IsInScope}
use Rattle.lvl_flat.proofs.Cutting.{whole_adds}
use Rattle.lvl_flat.proofs.Skipping.{drawn_more}
use Rattle.lvl_flat.proofs.draw.draw_everywhere.Goals as goal

pub loop-k-preserved : goal.loop-k-preserved
loop-k-preserved c =
    let shifts : List Point = (shape_at c.args.shapes.now c.args.i).shifts in
    let seen : slice_get shifts c.loop-k.k ≡ Some c.in-Some.shift = sym c.shift.ensures ∙ c.in-Some.is in
    let pushed = c.in_ok-push_placed.ensures in
    drawn_more c.args.map.now Everything c.args.ring.now shifts c.args.rings.now c.loop-k.rings
    c.push_placed.new.rings c.loop-k.k c.in-Some.shift c.loop-k.invariant seen
    (whole_adds c.args.map.now c.in-Some.shift (IsInScope Everything) c.args.ring.now c.loop-k.rings
    c.push_placed.new.rings pushed.ok pushed.covers (λ q at. tt)) pushed.in_range
    (λ all. ap length pushed.ok
    ∙ length_push c.loop-k.rings (map (placed_point c.args.map.now c.in-Some.shift) c.args.ring.now))

pub returns-clause-drawn : goal.returns-clause-drawn
returns-clause-drawn c =
    let shifts : List Point = (shape_at c.args.shapes.now c.args.i).shifts in
    subst (λ es. IsRingDrawn c.args.map.now Everything es c.args.ring.now c.args.rings.now c.loop-k.rings)
    (take_all c.loop-k.k shifts (omega (arith, c.loop-k-test.false, c.shift_count-k-end.ensures)))
    c.loop-k.invariant
