-- Layers in their order, each of them once.
use Rattle.std.proofs.Common.{◌≡◌, ◌<◌, ◌⊎◌, ◌==◌, ℕ, Bool, true, false, cond, Ordering, Less, Equal, Greater, List, []}
use Rattle.std.proofs.Common.{◌∷◌, All, AllPairs, Contains, IsPermutation, nat_cmp, nat_lt, inl, inr, refl, arith}
use Rattle.std.specs.Ordering.{ordering_then, eq_by_cmp, on, then_cmp}
use Rattle.std.specs.Cmp.{IsTotalOrder, IsEquivalence, then_total, on_total, nat_cmp_total, unsigned_ties, both_tied}
use Rattle.std.specs.Cmp.{and_equiv, on_equiv, nat_eq_equiv}
use Rattle.std.specs.List.{dedup}
use Rattle.std.specs.List.Sorted.{IsSorted, IsStrictlySortedBy}
use Rattle.std.proofs.lemmas.Bool.{ltb-true, eqb-true}
use Rattle.std.proofs.lemmas.List.Elements.{All-contains_itself, All-weaker, All-from_recursion}
use Rattle.std.proofs.lemmas.List.Sorted.{Contains-permutation, IsPermutation-sym}
use Rattle.std.proofs.lemmas.List.Kept.{AllPairs-cons, Contains-dedup, Contains-from_dedup, IsStrictlySortedBy-dedup}
use Rattle.lvl_names.specs.declared.layer.Layer.{Layer}
use Rattle.lvl_names.specs.Layers.{ComesBefore, same_layer}
use Rattle.lvl_names.proofs.Layers.{is_same}

-- Layers are compared by the layer, then by the datatype
abbrev pub layer_cmp : Layer → Layer → Ordering
layer_cmp = then_cmp (on (λ (l : Layer). l.layer) nat_cmp) (on (λ (l : Layer). l.datatype) nat_cmp)

layer_total : IsTotalOrder layer_cmp
layer_total =
    then_total (on_total (λ (l : Layer). l.layer) nat_cmp_total) (on_total (λ (l : Layer). l.datatype) nat_cmp_total)

layer_ties : (a b : Layer) → same_layer a b ≡ eq_by_cmp layer_cmp a b
layer_ties a b = both_tied _ _ _ _ (unsigned_ties a.layer b.layer) (unsigned_ties a.datatype b.datatype)

first_less : (x y : ℕ) (a b : Bool) (o : Ordering) → nat_lt x y ≡ a → (x == y) ≡ b
    → ordering_then (cond a Less (cond b Equal Greater)) o ≡ Less → (x < y) ⊎ ((x ≡ y) × (o ≡ Less))
first_less x y true b o p q h = inl (ltb-true x y p)
first_less x y false true o p q h = inr (eqb-true x y q, h)
first_less x y false false o p q h = cc

is_less : (x y : ℕ) (a b : Bool) → nat_lt x y ≡ a → cond a Less (cond b Equal Greater) ≡ Less → x < y
is_less x y true b p h = ltb-true x y p
is_less x y false true p h = cc
is_less x y false false p h = cc

less_before : (a b : Layer) → layer_cmp a b ≡ Less → ComesBefore a b
less_before a b h =
    elim (first_less a.layer b.layer _ _ _ refl refl h) [
      | inl lt ↦ inl lt
      | inr e ↦ inr (e.0, is_less a.datatype b.datatype _ _ refl e.1)
    ]

pairs_from : (xs : List Layer) → IsStrictlySortedBy layer_cmp xs → AllPairs ComesBefore xs
unfolding IsStrictlySortedBy
pairs_from [] h = λ i j d lt in'. absurd (omega arith)
pairs_from (x ∷ xs) h =
    AllPairs-cons ComesBefore x xs
    (All-weaker (λ y. layer_cmp x y ≡ Less) (ComesBefore x) (less_before x) xs
    (All-from_recursion (λ y. layer_cmp x y ≡ Less) xs h.0)) (pairs_from xs h.1)

layer_equiv : IsEquivalence same_layer
layer_equiv =
    and_equiv (on_equiv (λ (l : Layer). l.layer) nat_eq_equiv) (on_equiv (λ (l : Layer). l.datatype) nat_eq_equiv)

-- sorted Layers without duplicates rise
pub rising : (xs : List Layer) → IsSorted layer_cmp xs → AllPairs ComesBefore (dedup same_layer xs)
rising xs h = pairs_from (dedup same_layer xs) (IsStrictlySortedBy-dedup layer_total {E = same_layer} layer_ties xs h)

-- each of the Layers is still there
pub still_there : (layers sorted : List Layer) → IsPermutation layers sorted
    → All (Contains (dedup same_layer sorted)) layers
still_there layers sorted moved =
    All-weaker {X = Layer} (Contains layers) (Contains (dedup same_layer sorted))
    (λ l has. Contains-dedup layer_equiv is_same sorted l (Contains-permutation layers sorted l moved has)) layers
    (All-contains_itself layers)

-- nothing else is there
pub all_of_those : (layers sorted : List Layer) → IsPermutation layers sorted
    → All (Contains layers) (dedup same_layer sorted)
all_of_those layers sorted moved =
    All-weaker {X = Layer} (Contains (dedup same_layer sorted)) (Contains layers)
    (λ l has. Contains-permutation sorted layers l (IsPermutation-sym layers sorted moved)
    (Contains-from_dedup same_layer sorted l has)) (dedup same_layer sorted)
    (All-contains_itself (dedup same_layer sorted))
