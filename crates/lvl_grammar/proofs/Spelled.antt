-- The spellings of records, in parts and joined.
use Rattle.std.proofs.Common.{ℕ, List, [], ◌∷◌, ◌++◌, refl, sym, ap, ◌∙◌, subst, append_assoc}
use Rattle.std.proofs.lemmas.List.{append-nil}
use Rattle.lvl_grammar.specs.Grammar.{Grammar}
use Rattle.lvl_grammar.specs.Front.{SpellsAll, FollowAll}

-- the spellings of some records, followed by that of one more
pub spells_join : {R : Type 0} (G : Grammar R) (before : List R) (a b : List ℕ) (rs : List R) (r : R)
    → SpellsAll G before a rs → G.spells (before ++ rs) b r → SpellsAll G before (a ++ b) (rs ++ r ∷ [])
spells_join G before a b [] r p q =
    (b, [], subst (λ l. G.spells l b r) (append-nil before) q, refl, ap (λ l. l ++ b) p ∙ sym (append-nil b))
spells_join G before a b (x ∷ xs) r p q = (
  p.0,
  p.1 ++ b,
  p.2,
  spells_join G (before ++ x ∷ []) p.1 b xs r p.3 (subst (λ l. G.spells l b r) (sym (append_assoc before (x ∷ []) xs))
      q),
  ap (λ l. l ++ b) p.4 ∙ append_assoc p.0 p.1 b,
)

pub follow_join : {R : Type 0} (G : Grammar R) (before rs : List R) (r : R) → FollowAll G before rs
    → G.follows (before ++ rs) r → FollowAll G before (rs ++ r ∷ [])
follow_join G before [] r p q = (subst (λ l. G.follows l r) (append-nil before) q, tt)
follow_join G before (x ∷ xs) r p q = (
  p.0,
  follow_join G (before ++ x ∷ []) xs r p.1 (subst (λ l. G.follows l r) (sym (append_assoc before (x ∷ []) xs))
      q),
)
