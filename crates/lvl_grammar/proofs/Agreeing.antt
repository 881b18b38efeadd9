-- Bytes of which one list is a prefix of the other.
use Rattle.std.proofs.Common.{◌≡◌, ℕ, List, [], ◌∷◌, ◌++◌, refl, sym, ap, ◌∙◌, inl, inr}
use Rattle.std.proofs.lemmas.List.{append-nil}
use Rattle.lvl_io.specs.Known.{Agree}

-- lists that agree are the same with something after each
pub agree_ends : (a b : List ℕ) → Agree a b → (x y : List ℕ) × (a ++ x ≡ b ++ y)
agree_ends a b h = elim h.1 [
  | inl e ↦ ([], h.0, append-nil a ∙ e)
  | inr e ↦ (h.0, [], sym e ∙ sym (append-nil b))
]

pub ends_agree : (a b x y : List ℕ) → a ++ x ≡ b ++ y → Agree a b
ends_agree [] b x y e = (b, inr refl)
ends_agree (i ∷ a) [] x y e = (i ∷ a, inl refl)
ends_agree (i ∷ a) (j ∷ b) x y e =
    let same : i ≡ j = cc in
    let rest : a ++ x ≡ b ++ y = cc in
    let h = ends_agree a b x y rest in
    elim h.1 [
      | inl f ↦ (h.0, inl (ap (λ k. k ∷ a) same ∙ ap (λ l. j ∷ l) f))
      | inr f ↦ (h.0, inr (ap (λ k. k ∷ b) (sym same) ∙ ap (λ l. i ∷ l) f))
    ]
