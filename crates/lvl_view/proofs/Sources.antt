-- A map of sources with one more pair.
use Rattle.std.proofs.Common.{◌≡◌, ℕ, zero, suc, ◌+◌, ◌<◌, Bool, true, false, ◌&&◌, ◌||◌, ◌==◌, cond, List, [], ◌∷◌}
use Rattle.std.proofs.Common.{◌++◌, take, drop, length, get_or, Option, Some, None, is_some, Contains, refl, sym, ap}
use Rattle.std.proofs.Common.{◌∙◌, subst, arith, append_assoc}
use Rattle.std.specs.List.{list_any, IsDistinct}
use Rattle.std.specs.Cmp.{IsEquivalence}
use Rattle.std.specs.Ordering.{is_eq, nat_cmp, ordering_then}
use Rattle.std.specs.declared.cmp.Ordering.{Ordering}
use Rattle.std.specs.declared.cmp.Ordering.TheVariants.{Less, Equal, Greater}
use Rattle.std.specs.BTreeMap.{BTreeMap, IsEmpty, is_at}
use Rattle.std.specs.Map.{lookup}
use Rattle.std.proofs.lemmas.Option.{none-some}
use Rattle.std.specs.BTreeMap as tree
use Rattle.std.proofs.lemmas.Bool.{false≢true}
use Rattle.std.proofs.lemmas.Bool.Decides.{Decides-eqb}
use Rattle.std.proofs.lemmas.Map.Keys.{IsDistinct-push}
use Rattle.std.proofs.lemmas.List.{take_more, take-append-drop}
use Rattle.lvl_names.specs.Layers.{same_layer}
use Rattle.lvl_names.specs.declared.layer.Layer.{Layer}
use Rattle.lvl_names.specs.contracts.layer.LayerOrd.TheImpl as layer_ord
use Rattle.lvl_view.specs.Views.{sources, target_in, IsFirstTwice, IsMapOf, IsWindowOf, IsFaultOf}
use Rattle.lvl_grid.specs.declared.point.Window.{Window}
use Rattle.lvl_view.specs.declared.fault.ViewFault.{ViewFault}
use Rattle.lvl_view.specs.declared.fault.ViewFault.TheVariants.{MapText, WindowText, MapTwice, EmptyWindow}
use Rattle.lvl_view.specs.inside.Reading.{AreTargets, IsAlone, IsTwiceFault}
use Rattle.lvl_view.specs.declared.map.LayerPair.{LayerPair}
use Rattle.lvl_names.proofs.Layers.{is_same}
use Rattle.lvl_names.proofs.Elements.{same_answer}

then_is_eq : (o p : Ordering) → is_eq (ordering_then o p) ≡ (is_eq o && is_eq p)
then_is_eq Less p = refl
then_is_eq Equal p = refl
then_is_eq Greater p = refl

number_is_eq : (x y : ℕ) → is_eq (nat_cmp x y) ≡ (x == y)
number_is_eq x y = grind arith

-- the order has two Layers as equal exactly if they are the same
pub cmp_same : (a b : Layer) → is_eq ((layer_ord.ghosts).cmp a b) ≡ same_layer a b
cmp_same a b =
    then_is_eq (nat_cmp a.layer b.layer) (nat_cmp a.datatype b.datatype)
    ∙ (ap (λ (t : Bool). t && is_eq (nat_cmp a.datatype b.datatype)) (number_is_eq a.layer b.layer)
    ∙ ap (λ (t : Bool). (a.layer == b.layer) && t) (number_is_eq a.datatype b.datatype))

same_self : (a : Layer) → same_layer a a ≡ true
same_self a =
    ap (λ (t : Bool). t && (a.datatype == a.datatype)) ((Decides-eqb a.layer a.layer).1 refl)
    ∙ (Decides-eqb a.datatype a.datatype).1 refl

pub same_laws : IsEquivalence same_layer
same_laws = record {
  refl = same_self;
  symm =
      λ x y. same_answer (same_layer x y) (same_layer y x)
      (λ h. subst (λ z. same_layer z x ≡ true) (is_same x y h) (same_self x))
      (λ h. subst (λ z. same_layer z y ≡ true) (is_same y x h) (same_self y));
  congr = λ x y z h. ap (λ (w : Layer). same_layer w z) (is_same x y h);
}

cond_none : (b : Bool) (x : Layer) (o : Option Layer) → cond b (Some x) o ≡ None → (b ≡ false) × (o ≡ None)
cond_none true x o h = absurd (none-some x (sym h))
cond_none false x o h = (refl, h)

swap : (a b : Bool) (x y z : Option Layer) → (a ≡ true → b ≡ true → ⊥) → cond a x (cond b y z) ≡ cond b y (cond a x z)
swap true true x y z n = absurd (n refl refl)
swap true false x y z n = refl
swap false true x y z n = refl
swap false false x y z n = refl

-- one more pair, whose source no earlier pair has
find_push : (pairs : List LayerPair) (p : LayerPair) (q : Layer) → target_in pairs p.source ≡ None
    → target_in (pairs ++ p ∷ []) q ≡ cond (same_layer p.source q) (Some p.target) (target_in pairs q)
find_push [] p q h = refl
find_push (w ∷ pairs) p q h =
    let parts = cond_none (same_layer w.source p.source) w.target (target_in pairs p.source) h in
    ap (λ (t : Option Layer). cond (same_layer w.source q) (Some w.target) t) (find_push pairs p q parts.1)
    ∙ swap (same_layer w.source q) (same_layer p.source q) (Some w.target) (Some p.target) (target_in pairs q)
    (λ a b. false≢true (sym parts.0 ∙ subst (λ z. same_layer w.source z ≡ true) (sym (is_same p.source q b)) a))

absent : (pairs : List LayerPair) (y : Layer) → target_in pairs y ≡ None
    → list_any (same_layer y) (sources pairs) ≡ false
absent [] y h = refl
absent (w ∷ pairs) y h =
    let parts = cond_none (same_layer w.source y) w.target (target_in pairs y) h in
    ap (λ (b : Bool). b || list_any (same_layer y) (sources pairs)) (same_laws.symm y w.source ∙ parts.0)
    ∙ absent pairs y parts.1

contains_source : (pairs : List LayerPair) (y : Layer) → is_some (target_in pairs y) ≡ true → Contains (sources pairs) y
contains_source [] y h = absurd (false≢true h)
contains_source (w ∷ pairs) y h =
    elim (same_layer w.source y)
    as (λ b. same_layer w.source y ≡ b → is_some (cond b (Some w.target) (target_in pairs y)) ≡ true
    → Contains (sources (w ∷ pairs)) y) [
      | true ↦ λ e t. (zero, omega arith, is_same w.source y e)
      | false ↦ λ e t. let k = contains_source pairs y t in (suc k.0, omega (arith, k.1), k.2)
    ] refl h

sources_append : (xs ys : List LayerPair) → sources (xs ++ ys) ≡ sources xs ++ sources ys
sources_append [] ys = refl
sources_append (x ∷ xs) ys = ap (λ (t : List Layer). x.source ∷ t) (sources_append xs ys)

pairs_more : (pairs : List LayerPair) (i : ℕ) (p : LayerPair) → i < length pairs → p ≡ get_or pairs i p
    → take (i + 1) pairs ≡ take i pairs ++ p ∷ []
pairs_more pairs i p h e = take_more pairs i p h ∙ ap (λ (q : LayerPair). take i pairs ++ q ∷ []) (sym e)

pub first_twice : (pairs : List LayerPair) (i : ℕ) (p : LayerPair) (m : BTreeMap Layer Layer) (o : Option Layer)
    → i < length pairs → p ≡ get_or pairs i p
    → AreTargets (take i pairs) m × IsDistinct same_layer (sources (take i pairs))
    → o ≡ tree.get (layer_ord.ghosts).cmp m p.source → is_some o ≡ true → IsFirstTwice (sources pairs) p.source
first_twice pairs i p m o h e inv u t = record {
  before = sources (take i pairs);
  after = sources (drop (i + 1) pairs);
  there =
      let rest : List LayerPair = drop (i + 1) pairs in
      let whole : pairs ≡ take i pairs ++ p ∷ rest =
      sym (take-append-drop (i + 1) pairs)
      ∙ (ap (λ (l : List LayerPair). l ++ rest) (pairs_more pairs i p h e)
      ∙ append_assoc (take i pairs) (p ∷ []) rest) in
      ap (λ (l : List LayerPair). sources l) whole ∙ sources_append (take i pairs) (p ∷ rest);
  distinct = inv.1;
  earlier =
      contains_source (take i pairs) p.source (ap (λ (x : Option Layer). is_some x) (sym (u ∙ inv.0 p.source)) ∙ t);
}

none_where : (o : Option Layer) → is_some o ≡ false → o ≡ None
none_where None h = refl
none_where (Some x) h = absurd (false≢true (sym h))

pub targets_more : (pairs : List LayerPair) (i : ℕ) (p : LayerPair) (m n : BTreeMap Layer Layer) (o : Option Layer)
    → i < length pairs → p ≡ get_or pairs i p
    → AreTargets (take i pairs) m × IsDistinct same_layer (sources (take i pairs))
    → o ≡ tree.get (layer_ord.ghosts).cmp m p.source → is_some o ≡ false
    → ((q : Layer)
    → tree.get (layer_ord.ghosts).cmp n q
    ≡ cond (is_eq ((layer_ord.ghosts).cmp p.source q)) (Some p.target) (tree.get (layer_ord.ghosts).cmp m q))
    → AreTargets (take (i + 1) pairs) n × IsDistinct same_layer (sources (take (i + 1) pairs))
targets_more pairs i p m n o h e inv u t up =
    let front : List LayerPair = take i pairs in
    let free : target_in front p.source ≡ None = sym (inv.0 p.source) ∙ (sym u ∙ none_where o t) in
    let more : take (i + 1) pairs ≡ front ++ p ∷ [] = pairs_more pairs i p h e in (
      subst (λ (l : List LayerPair). AreTargets l n) (sym more) (λ q. up q
          ∙ (ap (λ (b : Bool). cond b (Some p.target) (tree.get (layer_ord.ghosts).cmp m q)) (cmp_same p.source q)
          ∙ (ap (λ (x : Option Layer). cond (same_layer p.source q) (Some p.target) x) (inv.0 q)
          ∙ sym (find_push front p q free)))),
      subst (λ (l : List LayerPair). IsDistinct same_layer (sources l)) (sym more)
          (subst (IsDistinct same_layer) (sym (sources_append front (p ∷ [])))
          (IsDistinct-push same_laws (sources front) p.source inv.1 (absent front p.source free))),
    )

distinct_none : IsDistinct same_layer []
unfolding IsDistinct
distinct_none = tt

pub targets_none : (m : BTreeMap Layer Layer) → IsEmpty m → AreTargets [] m × IsDistinct same_layer (sources [])
targets_none m h = (λ q. ap (lookup (is_at ((layer_ord.ghosts).cmp q))) h, distinct_none)

-- a repeated source is the fault of a view
pub twice_fault : (map_text window_text : Option (List ℕ)) (pairs : List LayerPair) (w : Option Window) (f : ViewFault)
    → IsAlone (IsMapOf map_text) pairs → IsAlone (IsWindowOf window_text) w → IsTwiceFault pairs f
    → IsFaultOf map_text window_text f
twice_fault map_text window_text pairs w MapText a b h = absurd h
twice_fault map_text window_text pairs w WindowText a b h = absurd h
twice_fault map_text window_text pairs w (MapTwice layer) a b h =
    (record { pairs = pairs; window = w }, ((a pairs).1 refl, (b w).1 refl), h)
twice_fault map_text window_text pairs w EmptyWindow a b h = absurd h
