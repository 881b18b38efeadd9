-- Sets of Layers that grow.
use Rattle.std.proofs.Common.{◌≡◌, ◌<◌, ◌≤◌, ◌+◌, ◌++◌, ◌∷◌, [], ℕ, List, Contains, take, length, get_or, inl, inr}
use Rattle.std.proofs.Common.{true, false, sym, subst, ◌∙◌}
use Rattle.std.proofs.lemmas.List.{take_all, take_more}
use Rattle.std.proofs.lemmas.List.Elements.{Contains-push_cases}
use Rattle.lvl_names.specs.declared.layer.Layer.{Layer}
use Rattle.lvl_changed.specs.declared.layers.Layers.{Layers}
use Rattle.lvl_changed.specs.inside.Layers.{IsOn}

-- what holds of the Layers so far holds with one more for which it holds
pub layers_more : (P Q : Layer → Type 0) (ws xs : List Layer) (i : ℕ) (none : Layer) → xs ≡ ws → i < length xs
    → ((l : Layer) → P l → Q l) → ((l : Layer) → Contains (take i ws) l → P l) → Q (get_or xs i none) → (l : Layer)
    → Contains (take (i + 1) ws) l → Q l
layers_more P Q ws xs i none is low wide before here l has =
    let more : take (i + 1) ws ≡ take i ws ++ get_or ws i none ∷ [] =
    take_more ws i none (subst (λ (us : List Layer). i < length us) is low) in
    elim (Contains-push_cases (take i ws) (get_or ws i none) l (subst (λ us. Contains us l) more has)) [
      | inl earlier ↦ wide l (before l earlier)
      | inr this ↦ subst Q this (subst (λ (us : List Layer). Q (get_or us i none)) is here)
    ]

-- and of all of them
pub layers_all : (P : Layer → Type 0) (others : Layers) (xs : List Layer) (i : ℕ) → others.every ≡ false
    → xs ≡ others.list.items → length xs ≤ i → ((l : Layer) → Contains (take i others.list.items) l → P l)
    → (l : Layer) → IsOn others l → P l
layers_all P others xs i few is long each l (inl every) = absurd (let no : true ≡ false = sym every ∙ few in cc)
layers_all P others xs i few is long each l (inr has) =
    let whole : take i others.list.items ≡ others.list.items =
    take_all i others.list.items (subst (λ (us : List Layer). length us ≤ i) is long) in
    each l (subst (λ us. Contains us l) (sym whole) has)
