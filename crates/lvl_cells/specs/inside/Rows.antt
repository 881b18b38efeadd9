-- The targets of references as they are stored: for each cell a row of runs.
use Rattle.std.specs.Prelude.{◌≡◌, ⊤, ℕ, ◌-◌, ◌≤◌, List, [], ◌∷◌, ◌++◌, map, length, replicate, All}
use Rattle.lvl_grid.specs.Pieces.{cut_from, Rising}
use Rattle.lvl_cells.specs.declared.rows.Run.{Run}

-- the targets of the references from index `start` on, given their runs
abbrev pub spread : ℕ → List Run → List ℕ
spread start [] = []
spread start (run ∷ runs) = replicate (run.end - start) run.target ++ spread run.end runs

-- the ends of the runs never decrease, beginning with `start`
abbrev pub Rises : ℕ → List Run → Type 0
Rises start [] = ⊤
Rises start (run ∷ runs) = (start ≤ run.end) × Rises run.end runs

-- the targets of each row
abbrev pub spread_rows : List ℕ → List Run → List (List ℕ)
spread_rows ends runs = map (spread 0) (cut_from 0 ends runs)

-- the indexes cut the runs into rows, each of which rises, and no run is left over
pub record AreRows (ends : List ℕ) (runs : List Run) : Type 0 where
  pub rising : Rising 0 ends (length runs)
  pub rows : All (Rises 0) (cut_from 0 ends runs)

-- the runs are those of `front` and a row of these targets
pub record HasRow (front runs : List Run) (targets : List ℕ) : Type 0 where
  pub row : List Run
  pub is : runs ≡ front ++ row
  pub rises : Rises 0 row
  pub targets_are : spread 0 row ≡ targets
