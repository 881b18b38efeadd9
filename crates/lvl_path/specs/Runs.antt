-- The straight runs of a path, and the squares that it covers (own rules). Points are named by their index.
use Rattle.std.specs.Prelude.{◌≡◌, ◌<◌, ◌≤◌, ◌+◌, ◌-◌, ◌==◌, ◌||◌, not, Bool, ℕ, pos, List, length, map}
use Rattle.std.specs.Prelude.{filter, slice_index_or, Any, if◌then◌else◌, unsigned_abs, ◌-ℤ◌}
use Rattle.std.specs.List.{range_with_len}
use Rattle.lvl_grid.specs.declared.point.Point.{Point}
use Rattle.lvl_grid.specs.declared.point.Square.{Square}
use Rattle.lvl_grid.specs.Winding.{IsStraight, path_edges}
use Rattle.lvl_path.specs.declared.band.Band.{Band}
use Rattle.lvl_path.specs.declared.band.Reach.{Reach}
use Rattle.lvl_path.specs.declared.fault.PathFault.{PathFault}
use Rattle.lvl_path.specs.declared.fault.PathFault.TheVariants.{NoWidth, FewPoints, Oblique, RepeatedPoint, TurnsBack}
use Rattle.lvl_path.specs.declared.fault.PathFault.TheVariants.{ShortRun, OutOfRange}
use Rattle.lvl_path.specs.declared.way.Way.{Way}
use Rattle.lvl_path.specs.Ways.{way_between, opposite, same_way}
use Rattle.lvl_path.specs.Bands.{band_between, band_ring, Holds, FitsBand}

-- the point at index k, or the origin if there is none
abbrev pub point : List Point → ℕ → Point
point ps k = slice_index_or ps k (record { x = pos 0; y = pos 0 })

-- the direction of the step that ends at index k
abbrev pub way_into : List Point → ℕ → Way
way_into ps k = way_between (point ps (k - 1)) (point ps k)

-- the path ends at index k or changes its direction there
abbrev pub is_corner : List Point → ℕ → Bool
is_corner ps k = (k + 1 == length ps) || not (same_way (way_into ps k) (way_into ps (k + 1)))

-- the indexes after the first at which the path ends or changes its direction
abbrev pub corners : List Point → List ℕ
corners ps = filter (is_corner ps) (range_with_len 1 (length ps - 1))

-- the runs, as pairs of indexes: from the first point to the first corner, then from each corner to the next
abbrev pub runs : List Point → List (ℕ × ℕ)
runs ps = path_edges 0 (corners ps)

-- the band of a run: it reaches `half` beyond a corner, and beyond an end of the path the reach of that end
abbrev pub run_band : List Point → Reach → ℕ × ℕ → Band
run_band ps w run =
    band_between (point ps run.0) (point ps run.1) w.half (if run.0 == 0 then w.start else w.half)
    (if run.1 + 1 == length ps then w.end else w.half)

-- the path covers the square: the band of at least one run has it
abbrev pub PathCovers : List Point → Reach → Square → Type 0
PathCovers ps w s = Any (λ run. Holds (run_band ps w run) s) (runs ps)

-- the bands of a path as rings, in the order of its runs
abbrev pub path_rings : List Point → Reach → List (List Point)
path_rings ps w = map (λ run. band_ring (run_band ps w run)) (runs ps)

-- the length of a run in grid steps
abbrev pub run_length : List Point → ℕ × ℕ → ℕ
run_length ps run =
    unsigned_abs ((point ps run.1).x -ℤ (point ps run.0).x) + unsigned_abs ((point ps run.1).y -ℤ (point ps run.0).y)

-- P holds of the two points of some step of the path
abbrev pub SomeStep : (Point → Point → Type 0) → List Point → Type 0
SomeStep P ps = (k : ℕ) × (0 < k) × (k < length ps) × P (point ps (k - 1)) (point ps k)

-- some step has the opposite direction of the step before it
abbrev pub TurnsBackSomewhere : List Point → Type 0
TurnsBackSomewhere ps = (k : ℕ) × (0 < k) × (k + 1 < length ps) × (way_into ps (k + 1) ≡ opposite (way_into ps k))

-- the path breaches the rule of this fault
abbrev pub HasFault : List Point → Reach → PathFault → Type 0
HasFault ps w NoWidth = w.half ≡ 0
HasFault ps w FewPoints = length ps < 2
HasFault ps w Oblique = SomeStep (λ p q. ¬ IsStraight (p, q)) ps
HasFault ps w RepeatedPoint = SomeStep (λ p q. p ≡ q) ps
HasFault ps w TurnsBack = TurnsBackSomewhere ps
HasFault ps w ShortRun = (2 ≤ length (runs ps)) × Any (λ run. run_length ps run < w.half) (runs ps)
HasFault ps w OutOfRange = Any (λ run. ¬ FitsBand (run_band ps w run)) (runs ps)

-- the number of a rule
abbrev pub number : PathFault → ℕ
number NoWidth = 1
number FewPoints = 2
number Oblique = 3
number RepeatedPoint = 4
number TurnsBack = 5
number ShortRun = 6
number OutOfRange = 7

-- the fault has the lowest number of all that the path has
pub record IsLowestFault (ps : List Point) (w : Reach) (fault : PathFault) : Type 0 where
  pub breached : HasFault ps w fault
  pub lowest : (lower : PathFault) → number lower < number fault → ¬ HasFault ps w lower

-- the path has no fault
abbrev pub IsPath : List Point → Reach → Type 0
IsPath ps w = (fault : PathFault) → ¬ HasFault ps w fault
