-- The intervals of a row, and the bands of all rows from one on, defined from the edges.
use Rattle.std.specs.Prelude.{◌≡◌, ℕ, ◌+◌, zero, suc, Bool, true, false, ◌&&◌, not, List, [], ◌∷◌, map, ℤ, pos, ◌+ℤ◌}
use Rattle.std.specs.Prelude.{neg_ℤ, unsigned_abs, Option, None, Some, cond}
use Rattle.std.specs.List.{list_any, filter, sum_by}
use Rattle.std.specs.Ordering.{int_eq}
use Rattle.lvl_sweep.specs.declared.edge.Edge.{Edge}
use Rattle.lvl_sweep.specs.Slab.{Step, Slab}
use Rattle.lvl_sweep.specs.inside.Edges.{net, net_left}
use Rattle.lvl_sweep.specs.inside.Alive.{alive}
use Rattle.lvl_sweep.specs.Ahead.{is_from}

-- the steps with the value v from a up to b in front; if the first step begins at b with the same value, it is
-- lengthened instead
abbrev pub join : {V : Type 0} → (V → V → Bool) → ℤ → ℤ → Option V → List (Step V) → List (Step V)
join same a b None ss = ss
join same a b (Some v) [] = record { from = a; to = b; value = v } ∷ []
join same a b (Some v) (t ∷ ts) =
    cond (int_eq b t.from && same v t.value) (record { from = a; to = t.to; value = v } ∷ ts)
    (record { from = a; to = b; value = v } ∷ t ∷ ts)

-- the steps of the function f for the n integers from a on
abbrev pub steps_at : {V : Type 0} → (V → V → Bool) → (ℤ → Option V) → ℤ → ℕ → List (Step V)
steps_at same f a zero = []
steps_at same f a (suc n) = join same a (a +ℤ pos 1) (f a) (steps_at same f (a +ℤ pos 1) n)

-- the function f, without values below the bound, if there is one
abbrev pub from_on : {V : Type 0} → Option ℤ → (ℤ → Option V) → ℤ → Option V
from_on o f z = cond (is_from o z) (f z) None

-- the steps of f from the bound on, if f has no value at a distance from 0 greater than `far`
unfoldable pub steps_from : {V : Type 0} → (V → V → Bool) → ℕ → Option ℤ → (ℤ → Option V) → List (Step V)
steps_from same far o f = steps_at same (from_on o f) (neg_ℤ (pos far)) (far + far + 1)

-- a number so great that no coordinate of the edges is further from 0
unfoldable pub far_of : List Edge → ℕ
far_of es = sum_by (λ e. unsigned_abs e.low + unsigned_abs e.x + unsigned_abs e.high) es

-- some ring winds round the square at abscissa z
unfoldable pub inside : List Edge → ℤ → Bool
inside es z = list_any (λ e. not (int_eq (net_left e.ring z es) (pos 0))) es

-- the edges of each ring go up as often as down
abbrev pub Balanced : List Edge → Type 0
Balanced es = (r : ℕ) → net r es ≡ pos 0

abbrev pub ends : Step (Unit {0}) → ℤ × ℤ
ends s = (s.from, s.to)

-- the intervals that the edges of a row cover, from the bound on
unfoldable pub row_from : List Edge → Option ℤ → List (ℤ × ℤ)
row_from es o = map ends (steps_from (λ u v. true) (far_of es) o (λ z. cond (inside es z) (Some tt) None))

-- the intervals that the edges of a row cover
abbrev pub row : List Edge → List (ℤ × ℤ)
row es = row_from es None

-- the edges that cross row y
abbrev pub alive_at : List Edge → ℤ → List Edge
alive_at es y = filter (alive y) es

-- the intervals of row y
unfoldable pub row_at : List Edge → ℤ → List (ℤ × ℤ)
row_at es y = row (alive_at es y)

-- the intervals of a row as a value; a row without intervals has none
abbrev pub as_value : List (ℤ × ℤ) → Option (List (ℤ × ℤ))
as_value [] = None
as_value (i ∷ is) = Some (i ∷ is)

abbrev pub same_row : List (ℤ × ℤ) → List (ℤ × ℤ) → Bool
same_row [] [] = true
same_row [] (j ∷ js) = false
same_row (i ∷ is) [] = false
same_row (i ∷ is) (j ∷ js) = (int_eq i.0 j.0 && int_eq i.1 j.1) && same_row is js

-- the bands of the rows from the bound on
unfoldable pub bands_from : List Edge → Option ℤ → List Slab
bands_from es o = steps_from same_row (far_of es) o (λ y. as_value (row_at es y))
