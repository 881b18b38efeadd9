-- Bands: the rectangle of squares that a straight run of a path covers (own rule).
use Rattle.std.specs.Prelude.{◌≤ℤ◌, ◌<ℤ◌, ◌+ℤ◌, ◌-ℤ◌, ℕ, pos, List, [], ◌∷◌, FitsSigned}
use Rattle.std.specs.Int.{w64}
use Rattle.lvl_grid.specs.declared.point.Point.{Point}
use Rattle.lvl_grid.specs.declared.point.Square.{Square}
use Rattle.lvl_path.specs.declared.band.Band.{Band}
use Rattle.lvl_path.specs.declared.way.Way.{Way}
use Rattle.lvl_path.specs.declared.way.Way.TheVariants.{East, North, West, South}
use Rattle.lvl_path.specs.Ways.{way_between}

-- the band of the run from p to q in this direction: `half` to both sides of the run, `before` beyond p and `after`
-- beyond q
abbrev pub band_towards : Way → Point → Point → (half before after : ℕ) → Band
band_towards East p q half before after =
    record { x0 = p.x -ℤ pos before; y0 = p.y -ℤ pos half; x1 = q.x +ℤ pos after; y1 = p.y +ℤ pos half }
band_towards North p q half before after =
    record { x0 = p.x -ℤ pos half; y0 = p.y -ℤ pos before; x1 = p.x +ℤ pos half; y1 = q.y +ℤ pos after }
band_towards West p q half before after =
    record { x0 = q.x -ℤ pos after; y0 = p.y -ℤ pos half; x1 = p.x +ℤ pos before; y1 = p.y +ℤ pos half }
band_towards South p q half before after =
    record { x0 = p.x -ℤ pos half; y0 = q.y -ℤ pos after; x1 = p.x +ℤ pos half; y1 = p.y +ℤ pos before }

-- the band of the run from p to q
abbrev pub band_between : Point → Point → (half before after : ℕ) → Band
band_between p q half before after = band_towards (way_between p q) p q half before after

-- the square is in the band
pub record Holds (b : Band) (s : Square) : Type 0 where
  pub right_of : b.x0 ≤ℤ s.x
  pub left_of : s.x <ℤ b.x1
  pub above : b.y0 ≤ℤ s.y
  pub below : s.y <ℤ b.y1

-- the rectangle between two corners: lower left, lower right, upper right, upper left
abbrev pub corner_ring : Point → Point → List Point
corner_ring low high = low ∷ record { x = high.x; y = low.y } ∷ high ∷ record { x = low.x; y = high.y } ∷ []

-- the band as a ring
abbrev pub band_ring : Band → List Point
band_ring b = corner_ring (record { x = b.x0; y = b.y0 }) (record { x = b.x1; y = b.y1 })

-- the corners of the band fit in 64 signed bits
pub record FitsBand (b : Band) : Type 0 where
  pub left : FitsSigned w64 b.x0
  pub low : FitsSigned w64 b.y0
  pub right : FitsSigned w64 b.x1
  pub high : FitsSigned w64 b.y1
