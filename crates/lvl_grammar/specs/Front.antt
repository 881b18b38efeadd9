-- Fronts of streams: the bytes of the first records of a file, for any format.
use Rattle.std.specs.Prelude.{◌≡◌, ℕ, ◌≤◌, List, [], ◌∷◌, ◌++◌, length}
use Rattle.lvl_grammar.specs.Grammar.{Grammar}

-- after the records `before`, the bytes are the spellings of further records, one after another
abbrev pub SpellsAll : {R : Type 0} → Grammar R → List R → List ℕ → List R → Type 0
SpellsAll G before bytes [] = bytes ≡ []
SpellsAll G before bytes (r ∷ rs) =
    (first rest : List ℕ) × G.spells before first r × SpellsAll G (before ++ r ∷ []) rest rs × (bytes ≡ first ++ rest)

-- each record may follow `before` and the records that precede it
abbrev pub FollowAll : {R : Type 0} → Grammar R → List R → List R → Type 0
FollowAll G before [] = Unit {0}
FollowAll G before (r ∷ rs) = G.follows before r × FollowAll G (before ++ r ∷ []) rs

-- the bytes are a front: they spell records each of which may follow those before it, and there are no more of them
-- than a file may have
pub record IsFront {R : Type 0} (G : Grammar R) (bytes : List ℕ) (records : List R) : Type 0 where
  pub spelled : SpellsAll G [] bytes records
  pub followed : FollowAll G [] records
  pub within : length bytes ≤ G.limit

-- the bytes are a whole file with these records
pub record SpellsWhole {R : Type 0} (G : Grammar R) (bytes : List ℕ) (records : List R) : Type 0 where
  pub front : IsFront G bytes records
  pub whole : G.ends records

-- the bytes aren't a whole file
abbrev pub SpellsNothing : {R : Type 0} → Grammar R → List ℕ → Type 0
SpellsNothing G bytes = (records : List _) → SpellsWhole G bytes records → ⊥
