-- The order of Layers, and when two are equal.
use Rattle.std.proofs.Common.{◌≡◌, ℕ, inl, inr, refl, ap, arith, ◌∙◌, ◌==◌, ◌&&◌, not, true, false}
use Rattle.lvl_names.specs.declared.layer.Layer.{Layer}
use Rattle.lvl_names.specs.Layers.{ComesBefore, same_layer}

pub before_trans : (a b c : Layer) → ComesBefore a b → ComesBefore b c → ComesBefore a c
before_trans a b c (inl h) (inl k) = inl (omega arith)
before_trans a b c (inl h) (inr k) = inl (omega (arith, k.0))
before_trans a b c (inr h) (inl k) = inl (omega (arith, h.0))
before_trans a b c (inr h) (inr k) = inr (omega (arith, h.0, k.0), omega (arith, h.1, k.1))

pub before_itself : (a : Layer) → ComesBefore a a → ⊥
before_itself a (inl h) = omega arith
before_itself a (inr h) = omega (arith, h.1)

pub layers_equal : (a b : Layer) → a.layer ≡ b.layer → a.datatype ≡ b.datatype → a ≡ b
layers_equal a b e f =
    let of : (x y : ℕ) → Layer = λ x y. record { layer = x; datatype = y } in
    ap (λ x. of x a.datatype) e ∙ ap (of b.layer) f

-- the comparison of both numbers decides whether two Layers are equal
pub tested_layer : (a b : Layer) → not (a.layer == b.layer && (a.datatype == b.datatype)) ≡ false → a ≡ b
tested_layer a b e = layers_equal a b (grind arith) (grind arith)

pub other_layer : (a b : Layer) → not (a.layer == b.layer && (a.datatype == b.datatype)) ≡ true → a ≡ b → ⊥
other_layer a b e same =
    let one : a.layer ≡ b.layer = ap (λ (x : Layer). x.layer) same in
    let two : a.datatype ≡ b.datatype = ap (λ (x : Layer). x.datatype) same in grind arith

pub same_is : (a b : Layer) → a ≡ b → same_layer a b ≡ true
same_is a b same =
    let one : a.layer ≡ b.layer = ap (λ (x : Layer). x.layer) same in
    let two : a.datatype ≡ b.datatype = ap (λ (x : Layer). x.datatype) same in grind arith

pub is_same : (a b : Layer) → same_layer a b ≡ true → a ≡ b
is_same a b h = tested_layer a b (ap not h)

pub differs_is : (a b : Layer) → (a ≡ b → ⊥) → same_layer a b ≡ false
differs_is a b other =
    elim (same_layer a b) as (λ t. same_layer a b ≡ t → same_layer a b ≡ false) [
      | true ↦ λ e. absurd (other (tested_layer a b (ap not e)))
      | false ↦ λ e. e
    ] refl
