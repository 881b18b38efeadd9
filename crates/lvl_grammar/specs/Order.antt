-- The order of records: expressions over record types, and the lists of types (words) that each allows.
use Rattle.std.specs.Prelude.{◌≡◌, ◌==◌, ◌||◌, Bool, false, ℕ, ◌⊎◌, List, [], ◌∷◌, ◌++◌}
use Rattle.std.specs.List.{AllByRecursion, flat_map}

-- an expression over record types, which are numbers: no type, one type, one expression and then another, either of
-- two, or any number of one
pub data Order : Type 0 where
  nothing : Order
  one : ℕ → Order
  next : Order → Order → Order
  either : Order → Order → Order
  many : Order → Order

infixr 10 ◌then◌
-- one expression and then another
abbrev pub ◌then◌ : Order → Order → Order
a then b = next a b

infixr 9 ◌or◌
-- either of two
abbrev pub ◌or◌ : Order → Order → Order
a or b = either a b

-- a, or nothing
abbrev pub maybe : Order → Order
maybe a = either a nothing

-- the list of types is a word of the expression
abbrev pub IsWord : Order → List ℕ → Type 0
IsWord nothing w = w ≡ []
IsWord (one k) w = w ≡ k ∷ []
IsWord (next a b) w = (u v : List ℕ) × IsWord a u × IsWord b v × (w ≡ u ++ v)
IsWord (either a b) w = IsWord a w ⊎ IsWord b w
IsWord (many a) w = (ws : List (List ℕ)) × AllByRecursion (IsWord a) ws × (w ≡ flat_map (λ u. u) ws)

-- the list of types is the beginning of a word, or a whole one
abbrev pub Begins : Order → List ℕ → Type 0
Begins a w = (more : List ℕ) × IsWord a (w ++ more)

-- whether the type is somewhere in the expression
abbrev pub has : Order → ℕ → Bool
has nothing k = false
has (one j) k = k == j
has (next a b) k = has a k || has b k
has (either a b) k = has a k || has b k
has (many a) k = has a k
