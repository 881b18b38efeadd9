-- The bands of a sweep: the one that it holds, and those still to come.
use Rattle.std.specs.Prelude.{◌≡◌, ◌≢◌, ◌+◌, ◌*◌, ◌≤◌, Bool, List, [], ◌∷◌, length, ℤ, ◌<ℤ◌, ◌≤ℤ◌, Some, cond}
use Rattle.std.specs.Global.{Vec}
use Rattle.std.specs.Vec.{vec_len, vec_capacity}
use Rattle.lvl_sweep.specs.declared.edge.Edge.{Edge}
use Rattle.lvl_sweep.specs.declared.band.Band.{Band}
use Rattle.lvl_sweep.specs.declared.strips.Strips.{Strips}
use Rattle.lvl_sweep.specs.Slab.{Slab}
use Rattle.lvl_sweep.specs.Bands.{slab_of}
use Rattle.lvl_sweep.specs.inside.Rows.{row_at, bands_from}
use Rattle.lvl_sweep.specs.inside.Strips.{IsAt}

-- the band ends at row y and has rows and intervals, and in each of its rows the edges cover exactly these intervals
pub record IsHeld (es : List Edge) (b : Band) (y : ℤ) : Type 0 where
  pub full : b.y0 <ℤ b.y1
  pub top : b.y1 ≡ y
  pub some : b.intervals.items ≢ []
  pub rows : (v : ℤ) → b.y0 ≤ℤ v → v <ℤ b.y1 → row_at es v ≡ b.intervals.items

-- the bands that are still to be read: if a band is held, that one and those from the present strip on, else none
abbrev pub bands_of : Strips → Band → Bool → List Slab
bands_of strips band held = cond held (slab_of band ∷ bands_from strips.edges.items (Some strips.y)) []

-- the list has the intervals of the present strip, at most half as many as there are edges, and room for that many
pub record IsRead (strips : Strips) (row : Vec (ℤ × ℤ)) : Type 0 where
  pub items : row.items ≡ row_at strips.edges.items strips.y
  pub few : 2 * vec_len row ≤ length strips.edges.items
  pub room : length strips.edges.items ≤ 2 * vec_capacity row + 1

-- the row is read, and the band also has at most half as many intervals as there are edges, and room for that many
pub record IsSweep (strips : Strips) (band : Band) (row : Vec (ℤ × ℤ)) : Type 0 where
  pub at : IsAt strips
  pub read : IsRead strips row
  pub few : 2 * vec_len band.intervals ≤ length strips.edges.items
  pub room : length strips.edges.items ≤ 2 * vec_capacity band.intervals + 1
