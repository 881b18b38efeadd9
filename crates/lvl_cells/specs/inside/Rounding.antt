-- Rounds: if the last cell of a path refers to a cell on the path, the round is the path from that cell on.
use Rattle.std.specs.Prelude.{◌≡◌, ℕ, suc, ◌-◌, ◌<◌, ◌≤◌, List, [], map, drop, length, All, Contains, slice_get}
use Rattle.std.specs.Prelude.{slice_index_or, Some}
use Rattle.std.specs.List.{IsDistinct}
use Rattle.std.specs.Bool.{nat_eq}
use Rattle.lvl_cells.specs.Cells.{PlainCell, Rings, names}
use Rattle.lvl_cells.specs.Soundness.{links}
use Rattle.lvl_cells.specs.declared.walk.Visit.{Visit}

-- the name of the cell that is visited
abbrev pub visited_name : List (PlainCell Rings) → Visit → List ℕ
visited_name cells v = slice_index_or (names cells) v.cell []

-- the round is the path from its visit of the cell `start` on
pub record IsFrom (path : List Visit) (start : ℕ) (round : List Visit) : Type 0 where
  pub place : ℕ
  pub visit : Visit
  pub there : slice_get path place ≡ Some visit
  pub cell_is : visit.cell ≡ start
  pub rest : round ≡ drop place path

-- the visits are to distinct cells, each referring to the next and the last to the first
pub record IsRoundOf (cells : List (PlainCell Rings)) (round : List Visit) : Type 0 where
  pub some : 0 < length round
  pub within : All (λ v. v.cell < length cells) round
  pub apart : IsDistinct nat_eq (map (λ v. v.cell) round)
  pub steps : (k : ℕ) (v w : Visit) → slice_get round k ≡ Some v → slice_get round (suc k) ≡ Some w
      → Contains (links cells) (visited_name cells v, visited_name cells w)
  pub closed : (v w : Visit) → slice_get round 0 ≡ Some v → slice_get round (length round - 1) ≡ Some w
      → Contains (links cells) (visited_name cells w, visited_name cells v)

-- of all visits, the one at index `first` is to the cell that comes first in the file
pub record IsFirstIn (round : List Visit) (first : ℕ) : Type 0 where
  pub visit : Visit
  pub there : slice_get round first ≡ Some visit
  pub least : (k : ℕ) (w : Visit) → slice_get round k ≡ Some w → visit.cell ≤ w.cell
