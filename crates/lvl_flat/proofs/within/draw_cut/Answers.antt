use Rattle.std.proofs.Common.{◌≡◌, ◌++◌, ◌∷◌, [], List, map, get_or, ap, ◌∙◌}
use Rattle.lvl_grid.specs.declared.point.Point.{Point}
use Rattle.lvl_grid.specs.Placed.{placed_point}
use Rattle.lvl_flat.proofs.Cutting.{cut_adds}
use Rattle.lvl_flat.proofs.within.draw_cut.Goals as goal

pub returns-clause-covers : goal.returns-clause-covers
returns-clause-covers c =
    let ring : List Point = map (placed_point c.args.map.now c.args.shift) c.args.ring.now in
    let whole : c.push_placed.new.rings ≡ ring ∷ [] =
    c.in_ok-push_placed.ensures.ok ∙ ap (λ rs. rs ++ ring ∷ []) c.new-placed.ensures in
    let is : c.ring.result.now ≡ ring = c.ring.ensures.value ∙ ap (λ rs. get_or rs 0 []) whole in
    cut_adds c.args.map.now c.args.shift c.args.window.now c.args.ring.now c.ring.result.now c.args.rings.now
    c.push_clipped.new.self is c.in_ok-push_placed.ensures.covers c.in-Ok.ensures.covers
