use Rattle.std.proofs.Common.{◌≡◌, List, map, ap, ◌∙◌}
use Rattle.lvl_grid.specs.declared.point.Point.{Point}
use Rattle.lvl_grid.specs.Placed.{placed_point}
use Rattle.lvl_flat.proofs.Replacing.{near_covers}
use Rattle.lvl_flat.proofs.near.placed_near.Goals as goal

pub returns-in-Ok-placed : goal.returns-in-Ok-placed
returns-in-Ok-placed c =
    let image : Point → Point = placed_point c.args.map.now c.args.shift in
    let points : List Point = c.in_ok-points.points.items in
    let is : c.in-Ok-placed.placed ≡ map image points =
    c.in-Ok-placed.ensures.points ∙ ap (map image) c.in-Ok.ensures.ok.0 in
    near_covers c.args.map.now c.args.shift c.args.window.now c.args.ring.now points c.in-Ok-placed.placed c.requires
    c.in_ok-points.ensures is
