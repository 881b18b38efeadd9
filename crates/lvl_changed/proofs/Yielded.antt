-- What a loop has taken of a list, and the rest.
use Rattle.std.proofs.Common.{◌≡◌, ◌++◌, ◌∷◌, [], List, sym, ap, ◌∙◌, append_assoc}
use Rattle.std.proofs.lemmas.List.{append-nil}

-- one more element is taken
pub rest_goes : {X : Type 0} (all came rest after : List X) (x : X) → came ++ rest ≡ all → rest ≡ x ∷ after
    → (came ++ x ∷ []) ++ after ≡ all
rest_goes all came rest after x is next =
    append_assoc came (x ∷ []) after ∙ (ap (λ xs. came ++ xs) (sym next) ∙ is)

-- all are taken
pub rest_ends : {X : Type 0} (all came rest : List X) → came ++ rest ≡ all → rest ≡ [] → came ≡ all
rest_ends all came rest is none = sym (append-nil came) ∙ (ap (λ xs. came ++ xs) (sym none) ∙ is)
