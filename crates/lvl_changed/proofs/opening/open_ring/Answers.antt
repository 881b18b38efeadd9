use Rattle.std.proofs.Common.{◌≡◌, ◌↔◌, ◌++◌, ◌∷◌, [], List, map, get_or, sym, ap, ◌∙◌, subst}
use Rattle.lvl_grid.specs.declared.point.Point.{Point}
use Rattle.lvl_grid.specs.Placed.{IsPlaceOfCovered, placed_point}
use Rattle.lvl_grid.specs.Winding.{Covers}
use Rattle.lvl_changed.specs.inside.Opening.{origin}
use Rattle.lvl_changed.proofs.Under.{ring_added}
use Rattle.lvl_changed.proofs.opening.open_ring.Goals as goal

pub returns-in-Ok : goal.returns-in-Ok
returns-in-Ok c =
    let ring : List Point = c.args.ring.now in
    let r : List Point = c.ring.result.now in
    let placed : List Point = map (placed_point c.args.by.now origin) ring in
    let rings : List (List Point) = c.push_placed.new.rings in
    let first : rings ≡ placed ∷ [] = c.in-Ok.ensures.ok ∙ ap (λ rs. rs ++ placed ∷ []) c.new-placed.ensures in
    let is : r ≡ placed = c.ring.ensures.value ∙ ap (λ (rs : List (List Point)). get_or rs 0 []) first in
    ring_added c.args.shapes.now c.push_ring.new.self c.args.on c.args.by.now r ring c.args.shifts.now
    c.in_ok-push_ring-in-Ok.ensures.added
    (λ t. subst (λ (ps : List Point). Covers ps t ↔ IsPlaceOfCovered c.args.by.now origin ring t) (sym is)
    (c.in-Ok.ensures.covers t))
