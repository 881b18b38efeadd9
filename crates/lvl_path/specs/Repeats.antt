-- Points of a path that equal the point before (own rule): a path draws the same without them.
use Rattle.std.specs.Prelude.{◌&&◌, Bool, if◌then◌else◌, List, [], ◌∷◌}
use Rattle.std.specs.Ordering.{int_eq}
use Rattle.lvl_grid.specs.declared.point.Point.{Point}

-- both coordinates are equal
abbrev pub same_point : Point → Point → Bool
same_point p q = int_eq p.x q.x && int_eq p.y q.y

-- p, and the points after it without each that equals the one before it
abbrev pub from_point : Point → List Point → List Point
from_point p [] = p ∷ []
from_point p (q ∷ qs) = if same_point q p then from_point p qs else p ∷ from_point q qs

-- the points without each that equals the one before it
abbrev pub without_repeats : List Point → List Point
without_repeats [] = []
without_repeats (p ∷ ps) = from_point p ps

-- the points of which the rules of paths are asked: without repeats if these are ignored, otherwise all
abbrev pub asked : Bool → List Point → List Point
asked ignored ps = if ignored then without_repeats ps else ps
