-- The intervals of a row, taken one after another.
use Rattle.std.proofs.Common.{◌≡◌, ◌*◌, ◌≤◌, false, List, [], ◌∷◌, ◌++◌, length, ℤ, refl}
use Rattle.std.specs.Global.{Vec}
use Rattle.std.specs.Vec.{vec_len, vec_capacity}
use Rattle.std.proofs.lemmas.List.{append_assoc}
use Rattle.lvl_sweep.specs.declared.edge.Edge.{Edge}
use Rattle.lvl_sweep.specs.declared.windings.Windings.{Windings}
use Rattle.lvl_sweep.specs.declared.walk.WalkPosition.{WalkPosition}
use Rattle.lvl_sweep.specs.inside.Edges.{AreAtRest}
use Rattle.lvl_sweep.specs.inside.Rows.{row, row_from}
use Rattle.lvl_sweep.specs.inside.Walks.{HasPassed, IsParted, is_inside}

-- the intervals taken so far and those from the place on are those of the row
pub record Collected (es : List Edge) (w w' : Windings) (old new : Vec (ℤ × ℤ)) (p : WalkPosition) : Type 0 where
  pub passed : HasPassed es p.at w'
  pub parted : IsParted es p.at p.x
  pub rings : length w'.counts.items ≡ length w.counts.items
  pub outside : is_inside w' ≡ false
  pub row : row es ≡ new.items ++ row_from es p.x
  pub few : 2 * vec_len new ≤ p.at
  pub capacity : vec_capacity new ≡ vec_capacity old

pub at_rest_outside : (w : Windings) → AreAtRest w → is_inside w ≡ false
at_rest_outside w rest = rw rest.turning refl

-- one more interval
pub one_taken : (whole new is rest left : List (ℤ × ℤ)) (i : ℤ × ℤ) → whole ≡ is ++ rest → rest ≡ i ∷ left
    → new ≡ is ++ i ∷ [] → whole ≡ new ++ left
one_taken whole new is rest left i e f g = rw (e, f, g, append_assoc) refl
