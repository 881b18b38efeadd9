-- An index with one more name, and the fault of a name that occurs twice.
use Rattle.std.proofs.Common.{◌≡◌, ℕ, zero, suc, ◌+◌, ◌<◌, Bool, true, false, ◌||◌, cond, List, [], ◌∷◌, ◌++◌, take}
use Rattle.std.proofs.Common.{drop, length, get_or, ◌⊎◌, inl, inr, ⊎_elim, Option, Some, None, is_some, append_assoc}
use Rattle.std.proofs.Common.{refl, sym, ap, ◌∙◌, subst, arith, ◌↔◌}
use Rattle.std.specs.List.{slice_get, list_any, IsDistinct}
use Rattle.std.specs.Str.{bytes_eq}
use Rattle.std.specs.Map.{update, lookup}
use Rattle.std.specs.Cmp.{IsEquivalence}
use Rattle.std.proofs.lemmas.Slice.Eq.{bytes_eq-Decides}
use Rattle.std.proofs.lemmas.Map.Keys.{IsDistinct-push}
use Rattle.std.proofs.lemmas.List.{take_more, take-append-drop, length-take-le}
use Rattle.std.proofs.lemmas.Bool.{false≢true}
use Rattle.std.proofs.Math.ListN.{get_or-map, length-map}
use Rattle.lvl_names.proofs.Elements.{contains_at, same_answer}
use Rattle.lvl_cells.specs.Cells.{PlainCell, names, Rings}
use Rattle.std.specs.BTreeMap.{BTreeMap, IsEmpty, is_at}
use Rattle.std.specs.Cmp.Lexicographic.{slice_cmp}
use Rattle.std.specs.Ordering.{nat_cmp}
use denote.Ref.{Bor}
use Rattle.lvl_cells.specs.Resolving.{Finds, place_in_index, IsIndexOf}
use Rattle.lvl_cells.specs.Faults.{IsFirstRepeat}

pub push_front : {X : Type 0} (xs : List X) (y : X) (k : ℕ) (x : X) → slice_get xs k ≡ Some x
    → slice_get (xs ++ y ∷ []) k ≡ Some x
push_front [] y k x h = cc
push_front (z ∷ zs) y zero x h = h
push_front (z ∷ zs) y (suc k) x h = push_front zs y k x h

pub push_last : {X : Type 0} (xs : List X) (y : X) → slice_get (xs ++ y ∷ []) (length xs) ≡ Some y
push_last [] y = refl
push_last (z ∷ zs) y = push_last zs y

pub push_cases : {X : Type 0} (xs : List X) (y : X) (k : ℕ) (x : X) → slice_get (xs ++ y ∷ []) k ≡ Some x
    → (slice_get xs k ≡ Some x) ⊎ ((k ≡ length xs) × (y ≡ x))
push_cases [] y zero x h = inr (refl, cc)
push_cases [] y (suc k) x h = cc
push_cases (z ∷ zs) y zero x h = inl h
push_cases (z ∷ zs) y (suc k) x h = ⊎_elim (λ e. inl e) (λ e. inr (ap suc e.0, e.1)) (push_cases zs y k x h)

pub bytes_eq_laws : IsEquivalence bytes_eq
bytes_eq_laws = record {
  refl = λ x. (bytes_eq-Decides x x).1 refl;
  symm =
      λ x y.
      same_answer (bytes_eq x y) (bytes_eq y x) (λ h. (bytes_eq-Decides y x).1 (sym ((bytes_eq-Decides x y).0 h)))
      (λ h. (bytes_eq-Decides x y).1 (sym ((bytes_eq-Decides y x).0 h)));
  congr = λ x y z h. ap (λ (w : List ℕ). bytes_eq w z) ((bytes_eq-Decides x y).0 h);
}

absent : (xs : List (List ℕ)) (y : List ℕ) → ((k : ℕ) → slice_get xs k ≡ Some y → ⊥) → list_any (bytes_eq y) xs ≡ false
absent [] y h = refl
absent (x ∷ xs) y h =
    elim (bytes_eq y x) as (λ b. bytes_eq y x ≡ b → (b || list_any (bytes_eq y) xs) ≡ false) [
      | true ↦ λ e. absurd (h zero (ap Some (sym ((bytes_eq-Decides y x).0 e))))
      | false ↦ λ e. absent xs y (λ k. h (suc k))
    ] refl

pub distinct_more : (g : List ℕ → Option ℕ) (xs : List (List ℕ)) (y : List ℕ) → Finds g xs → g y ≡ None
    → IsDistinct bytes_eq xs → IsDistinct bytes_eq (xs ++ y ∷ [])
distinct_more g xs y f n d = IsDistinct-push bytes_eq_laws xs y d (absent xs y (λ k h. let e = (f y k).1 h in cc))

finds_here : (g h : List ℕ → Option ℕ) (xs : List (List ℕ)) (y name : List ℕ) (k : ℕ) (b : Bool) → Finds g xs
    → g y ≡ None → bytes_eq y name ≡ b → h name ≡ cond b (Some (length xs)) (g name)
    → (h name ≡ Some k) ↔ (slice_get (xs ++ y ∷ []) k ≡ Some name)
finds_here g h xs y name k true f n e u =
    let same : y ≡ name = (bytes_eq-Decides y name).0 e in (
      λ t. let at : length xs ≡ k = cc in rw (← at, ← same) (push_last xs y),
      λ t. ⊎_elim (λ a. let i = (f name k).1 a in cc) (λ a. u ∙ ap Some (sym a.0)) (push_cases xs y k name t),
    )
finds_here g h xs y name k false f n e u = (
  λ t. push_front xs y k name ((f name k).0 (sym u ∙ t)),
  λ t. ⊎_elim (λ a. u ∙ (f name k).1 a) (λ a. let yes : bytes_eq y name ≡ true = (bytes_eq-Decides y name).1 a.1 in cc)
      (push_cases xs y k name t),
)

pub finds_more : (g h : List ℕ → Option ℕ) (xs : List (List ℕ)) (y : List ℕ) → Finds g xs → g y ≡ None
    → ((name : List ℕ) → h name ≡ update bytes_eq g y (Some (length xs)) name) → Finds h (xs ++ y ∷ [])
finds_more g h xs y f n u = λ name k. finds_here g h xs y name k (bytes_eq y name) f n refl (u name)

pub names_more : (cells : List (PlainCell Rings)) (i : ℕ) (c : PlainCell Rings) → i < length cells
    → c ≡ get_or cells i c → take (i + 1) (names cells) ≡ take i (names cells) ++ c.name ∷ []
names_more cells i c h e =
    let name_of : PlainCell Rings → List ℕ = λ x. x.name in
    let at : get_or (names cells) i c.name ≡ c.name = get_or-map name_of cells i c ∙ ap name_of (sym e) in
    let within : i < length (names cells) = omega (arith, length-map cells name_of) in
    take_more (names cells) i c.name within ∙ ap (λ (n : List ℕ). take i (names cells) ++ n ∷ []) at

-- the name at i occurs earlier too
pub repeat_at : (cells : List (PlainCell Rings)) (i k : ℕ) (c : PlainCell Rings) → i < length cells
    → c ≡ get_or cells i c → IsDistinct bytes_eq (take i (names cells))
    → slice_get (take i (names cells)) k ≡ Some c.name → IsFirstRepeat (names cells) c.name
repeat_at cells i k c h e d s = record {
  before = take i (names cells);
  after = drop (i + 1) (names cells);
  there =
      let rest : List (List ℕ) = drop (i + 1) (names cells) in
      sym (take-append-drop (i + 1) (names cells))
      ∙ (ap (λ (t : List (List ℕ)). t ++ rest) (names_more cells i c h e)
      ∙ append_assoc (take i (names cells)) (c.name ∷ []) rest);
  distinct = d;
  repeated = contains_at (take i (names cells)) k c.name s;
}

pub repeat_by : (cells : List (PlainCell Rings)) (i : ℕ) (c : PlainCell Rings) (g : List ℕ → Option ℕ) (o : Option ℕ)
    → i < length cells → c ≡ get_or cells i c → IsDistinct bytes_eq (take i (names cells))
    → Finds g (take i (names cells)) → is_some o ≡ true → o ≡ g c.name → IsFirstRepeat (names cells) c.name
repeat_by cells i c g None h e d f t u = absurd (false≢true t)
repeat_by cells i c g (Some k) h e d f t u = repeat_at cells i k c h e d ((f c.name k).0 (sym u))

pub distinct_none : IsDistinct bytes_eq []
unfolding IsDistinct
distinct_none = tt

pub index_none : (m : BTreeMap (Bor (List ℕ)) ℕ) → IsEmpty m → IsIndexOf [] m
index_none m h = λ name k. (
  λ e. let n : place_in_index m name ≡ None =
      ap (lookup (is_at (λ (q : Bor (List ℕ)). slice_cmp nat_cmp name q.now))) h in
      cc,
  λ e. cc,
)

pub none_where : {X : Type 0} (o p : Option X) → is_some o ≡ false → o ≡ p → p ≡ None
none_where None p h e = sym e
none_where (Some x) p h e = absurd (false≢true (sym h))

-- with one more name, which the index doesn't have yet, the names are distinct
pub distinct_step : (cells : List (PlainCell Rings)) (i : ℕ) (c : PlainCell Rings) (m : BTreeMap (Bor (List ℕ)) ℕ)
    → i < length cells → c ≡ get_or cells i c → IsIndexOf (take i (names cells)) m → place_in_index m c.name ≡ None
    → IsDistinct bytes_eq (take i (names cells)) → IsDistinct bytes_eq (take (i + 1) (names cells))
distinct_step cells i c m h e f free d =
    subst (IsDistinct bytes_eq) (sym (names_more cells i c h e))
    (distinct_more (place_in_index m) (take i (names cells)) c.name f free d)

-- the index of the names with one more, which it doesn't have yet
pub index_step : (cells : List (PlainCell Rings)) (i : ℕ) (c : PlainCell Rings) (m n : BTreeMap (Bor (List ℕ)) ℕ)
    → i < length cells → c ≡ get_or cells i c → IsIndexOf (take i (names cells)) m → place_in_index m c.name ≡ None
    → ((name : List ℕ) → place_in_index n name ≡ update bytes_eq (place_in_index m) c.name (Some i) name)
    → IsIndexOf (take (i + 1) (names cells)) n
index_step cells i c m n h e f free up =
    let xs : List (List ℕ) = take i (names cells) in
    let name_of : PlainCell Rings → List ℕ = λ x. x.name in
    let long : length xs ≡ i = length-take-le i (names cells) (omega (arith, length-map cells name_of)) in
    let raised : (name : List ℕ)
    → place_in_index n name ≡ update bytes_eq (place_in_index m) c.name (Some (length xs)) name =
    rw long up in
    subst (λ (l : List (List ℕ)). IsIndexOf l n) (sym (names_more cells i c h e))
    (finds_more (place_in_index m) (place_in_index n) xs c.name f free raised)
