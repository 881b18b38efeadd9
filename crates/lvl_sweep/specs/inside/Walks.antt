-- The state of a walk over the edges of a row from left to right, and what it has found.
use Rattle.std.specs.Prelude.{◌≡◌, ℕ, ◌<◌, ◌≤◌, ◌^◌, Bool, true, not, ◌==◌, List, length, take, drop, ℤ, pos, ◌<ℤ◌}
use Rattle.std.specs.Prelude.{◌≤ℤ◌, slice_index_or, All, Option, None, Some}
use Rattle.std.specs.List.{AllPairs}
use Rattle.lvl_sweep.specs.declared.edge.Edge.{Edge}
use Rattle.lvl_sweep.specs.declared.windings.Windings.{Windings}
use Rattle.lvl_sweep.specs.declared.walk.WalkPosition.{WalkPosition}
use Rattle.lvl_sweep.specs.inside.Edges.{net, how_many_turn}
use Rattle.lvl_sweep.specs.inside.Rows.{inside, Balanced}
use Rattle.lvl_sweep.specs.Ahead.{is_from}

-- the edges of a row are in order of abscissa, each is of a ring that has a count, and each ring's go up as often as
-- down
pub record IsRowOf (es : List Edge) (rings : ℕ) : Type 0 where
  pub rising : AllPairs (λ d e. d.x ≤ℤ e.x) es
  pub numbers : All (λ e. e.ring < rings) es
  pub few : length es < 2 ^ 63
  pub balanced : Balanced es

-- the counts are those of the first i edges
pub record HasPassed (es : List Edge) (i : ℕ) (w : Windings) : Type 0 where
  pub within : i ≤ length es
  pub counts : (r : ℕ) → r < length w.counts.items → slice_index_or w.counts.items r (pos 0) ≡ net r (take i es)
  pub turning : w.turning ≡ how_many_turn w.counts.items

-- the first i edges are at x or left of it, the others right of it
pub record IsPartedAt (es : List Edge) (i : ℕ) (x : ℤ) : Type 0 where
  pub left : All (λ e. e.x ≤ℤ x) (take i es)
  pub right : All (λ e. x <ℤ e.x) (drop i es)

abbrev pub IsParted : List Edge → ℕ → Option ℤ → Type 0
IsParted es i None = i ≡ 0
IsParted es i (Some x) = IsPartedAt es i x

-- the squares right of the last edge that was passed are inside of some ring
abbrev pub is_inside : Windings → Bool
is_inside w = not (w.turning == 0)

abbrev pub IsRightOf : Option ℤ → ℤ → Type 0
IsRightOf None x = Unit {0}
IsRightOf (Some a) x = a <ℤ x

-- the walk went from the old place to the new one, at x, where the wanted side begins: inside or outside
pub record HasTurned (es : List Edge) (wanted : Bool) (old new : WalkPosition) (w : Windings) (x : ℤ) : Type 0 where
  pub here : new.x ≡ Some x
  pub side : is_inside w ≡ wanted
  pub on : old.at < new.at
  pub right : IsRightOf old.x x
  pub before : (z : ℤ) → is_from old.x z ≡ true → z <ℤ x → inside es z ≡ not wanted

-- the walk went to the end of the row, and the wanted side doesn't begin there
pub record NeverTurns (es : List Edge) (wanted : Bool) (old new : WalkPosition) : Type 0 where
  pub all : new.at ≡ length es
  pub after : (z : ℤ) → is_from old.x z ≡ true → inside es z ≡ not wanted
