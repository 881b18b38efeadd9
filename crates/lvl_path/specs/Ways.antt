-- Ways: the four directions of straight steps.
use Rattle.std.specs.Prelude.{Bool, true, false, if◌then◌else◌, int_lt}
use Rattle.lvl_grid.specs.declared.point.Point.{Point}
use Rattle.lvl_path.specs.declared.way.Way.{Way}
use Rattle.lvl_path.specs.declared.way.Way.TheVariants.{East, North, West, South}

-- the direction from p to q; an oblique step counts as east or west, and a step between equal points as south
abbrev pub way_between : Point → Point → Way
way_between p q =
    if int_lt p.x q.x then East else (if int_lt q.x p.x then West else (if int_lt p.y q.y then North else South))

-- the opposite direction
abbrev pub opposite : Way → Way
opposite East = West
opposite North = South
opposite West = East
opposite South = North

-- both are the same direction
abbrev pub same_way : Way → Way → Bool
same_way East East = true
same_way North North = true
same_way West West = true
same_way South South = true
same_way _ _ = false
