-- What may come after a record type, by an order of records.
use Rattle.std.specs.Prelude.{◌↔◌, ◌==◌, ◌&&◌, ◌||◌, Bool, true, false, if◌then◌else◌, ℕ, ◌⊎◌, List, [], ◌∷◌, ◌++◌, map}
use Rattle.lvl_grammar.specs.Order.{Order, nothing, one, next, either, many, IsWord}

-- a and then c, with no `nothing` before c
abbrev pub seq : Order → Order → Order
seq nothing c = c
seq (one k) c = next (one k) c
seq (next a b) c = next a (seq b c)
seq (either a b) c = next (either a b) c
seq (many a) c = next (many a) c

-- whether the empty list is a word
abbrev pub can_be_empty : Order → Bool
can_be_empty nothing = true
can_be_empty (one k) = false
can_be_empty (next a b) = can_be_empty a && can_be_empty b
can_be_empty (either a b) = can_be_empty a || can_be_empty b
can_be_empty (many a) = true

-- what may come after a first record of type k: the rest is a word of one of these
abbrev pub after_first : Order → ℕ → List Order
after_first nothing k = []
after_first (one j) k = if k == j then nothing ∷ [] else []
after_first (next a b) k = map (λ r. seq r b) (after_first a k) ++ (if can_be_empty a then after_first b k else [])
after_first (either a b) k = after_first a k ++ after_first b k
after_first (many a) k = map (λ r. seq r (many a)) (after_first a k)

-- the list is a word of one of the expressions
abbrev pub IsWordOfOne : List Order → List ℕ → Type 0
IsWordOfOne [] w = ⊥
IsWordOfOne (r ∷ rs) w = IsWord r w ⊎ IsWordOfOne rs w

-- after the types w, the words of `left` are exactly what completes them to a word of `whole`
abbrev pub LeadsTo : Order → List ℕ → Order → Type 0
LeadsTo whole w left = (v : List ℕ) → IsWord whole (w ++ v) ↔ IsWord left v
