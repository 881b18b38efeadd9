-- One step of each loop over lines.
use Rattle.std.proofs.Common.{◌≡◌, ◌↔◌, Contains, map, true, ℕ, ◌+◌, inl, inr, arith, ◌<◌, ◌≤◌, Bool, List, [], ◌∷◌}
use Rattle.std.proofs.Common.{◌++◌, length, get_or, take, ℤ, All, IsTrue, refl, subst, pos}
use Rattle.std.proofs.Common.{Any}
use Rattle.std.proofs.lemmas.List.Elements.{All-more, All-nil, All-append, All-map, All-contains_itself}
use Rattle.std.proofs.lemmas.List.{take_all, take_more}
use Rattle.lvl_grid.proofs.Anyone.{Any-left, Any-push, some_contained}
use Rattle.lvl_grid.specs.declared.point.Point.{Point}
use Rattle.lvl_region.specs.declared.grid.GridRegion.{GridRegion}
use Rattle.lvl_region.specs.Region.{SomeCovers}
use Rattle.std.proofs.lemmas.List.Elements.{All-weaker, Contains-append_left, Contains-append_right}
use Rattle.std.proofs.lemmas.List.{get_or-map}
use Rattle.std.proofs.Math.ListN.{length-map}
use Rattle.std.proofs.lemmas.List.Filters.{All-dedup}
use Rattle.std.proofs.lemmas.List.Sorted.{Contains-permutation, All-permutation}
use Rattle.std.proofs.lemmas.List.Kept.{Contains-dedup, IsStrictlySortedBy-dedup}
use Rattle.std.specs.List.{dedup}
use Rattle.std.specs.List.Sorted.{IsPermutation, IsSorted}
use Rattle.std.specs.Ordering.{int_cmp, int_eq}
use Rattle.std.specs.Cmp.{int_cmp_total, int_eq_equiv, signed_Decides}
use Rattle.std.specs.Global.{Vec}
use Rattle.lvl_region.specs.declared.lines.Axis.{Axis}
use Rattle.lvl_region.specs.Grid.{IsRowOf, HasPlaces, HasVertexAt, AreLinesOf, AreRowsOf, along}
use Rattle.lvl_region.specs.Agree.{AgreeAt, AgreeOn, AgreeOnRows}
use Rattle.lvl_region.specs.Joined.{IsNext}
use Rattle.lvl_region.proofs.Between.{zip_more}
use Rattle.std.proofs.lemmas.Bool.{cases_lt}

pub row_none : (rings : List (List Point)) (xs : List ℤ) (y : ℤ) (cells : List Bool) → cells ≡ []
    → IsRowOf rings (take 0 xs) y cells
unfolding IsRowOf
row_none rings xs y cells e = rw e tt

pub row_step : (rings : List (List Point)) (xs : List ℤ) (cells new : List Bool) (i : ℕ) (x y : ℤ) (b : Bool)
    → i < length xs → IsRowOf rings (take i xs) y cells → new ≡ cells ++ b ∷ [] → x ≡ get_or xs i (pos 0)
    → (IsTrue b ↔ SomeCovers rings (record { x = x; y = y })) → IsRowOf rings (take (i + 1) xs) y new
unfolding IsRowOf
row_step rings xs cells new i x y b lt before e same reported =
    let R : ℤ → Bool → Type 0 = λ v cell. IsTrue cell ↔ SomeCovers rings (record { x = v; y = y }) in
    let here : R (get_or xs i (pos 0)) b = subst (λ (v : ℤ). R v b) same reported in
    rw e (zip_more R xs cells i (pos 0) b lt before here)

pub row_done : (rings : List (List Point)) (xs : List ℤ) (y y' : ℤ) (cells : List Bool) (i : ℕ) → length xs ≤ i → y' ≡ y
    → IsRowOf rings (take i xs) y' cells → IsRowOf rings xs y cells
row_done rings xs y y' cells i far same h = rw (take_all i xs far, same) at h

-- one more line, or none, of one of two lists that are walked together
all_past : (P : ℤ → Type 0) (lines : List ℤ) (i j : ℕ) (line : ℤ) → All P (take i lines) → i ≤ j → j ≤ i + 1
    → (i < j → IsNext lines i line) → P line → All P (take j lines)
all_past P lines i j line before stays one next here =
    elim (cases_lt i j) [
      | inl lt ↦
          let e : j ≡ i + 1 = omega arith in
          rw e (All-more P lines i (pos 0) (next lt).0 before (subst P (next lt).1 here))
      | inr ge ↦ let e : j ≡ i = omega arith in rw e before
    ]

pub agree_none : (a b : GridRegion) (y : ℤ) → AgreeOn a b [] y
unfolding AgreeOn
agree_none a b y = All-nil (λ x. AgreeAt a b (record { x = x; y = y }))

pub agree_past : (a b : GridRegion) (lines : List ℤ) (i j : ℕ) (x y : ℤ) → AgreeOn a b (take i lines) y → i ≤ j
    → j ≤ i + 1 → (i < j → IsNext lines i x) → AgreeAt a b (record { x = x; y = y }) → AgreeOn a b (take j lines) y
unfolding AgreeOn
agree_past a b lines i j x y before stays one next here =
    all_past (λ v. AgreeAt a b (record { x = v; y = y })) lines i j x before stays one next here

pub rows_none : (a b : GridRegion) → AgreeOnRows a b []
unfolding AgreeOnRows
rows_none a b = All-nil (λ y. AgreeOn a b a.xs.items y × AgreeOn a b b.xs.items y)

pub rows_past : (a b : GridRegion) (rows : List ℤ) (i j : ℕ) (y : ℤ) → AgreeOnRows a b (take i rows) → i ≤ j → j ≤ i + 1
    → (i < j → IsNext rows i y) → AgreeOn a b a.xs.items y → AgreeOn a b b.xs.items y → AgreeOnRows a b (take j rows)
unfolding AgreeOnRows
rows_past a b rows i j y before stays one next left right =
    all_past (λ v. AgreeOn a b a.xs.items v × AgreeOn a b b.xs.items v) rows i j y before stays one next (left, right)

contains_map : {A B : Type 0} (f : A → B) (as' : List A) (k : ℕ) (d : A) → k < length as'
    → Contains (map f as') (f (get_or as' k d))
contains_map f as' k d lt = (k, rw length-map lt, get_or-map f as' k d (f (get_or as' k d)) lt)

pub places_none : (axis : Axis) (lines : List ℤ) (rings : List (List Point)) → HasPlaces axis lines (take 0 rings)
unfolding HasPlaces
places_none axis lines rings = All-nil (λ ring. All (λ p. Contains lines (along axis p)) ring)

pub places_step : (axis : Axis) (old new : List ℤ) (rings : List (List Point)) (i : ℕ) (ring : List Point)
    → i < length rings → HasPlaces axis old (take i rings) → new ≡ old ++ map (along axis) ring
    → ring ≡ get_or rings i ring → HasPlaces axis new (take (i + 1) rings)
unfolding HasPlaces
places_step axis old new rings i ring lt before e is =
    let P : List Point → Type 0 = λ r. All (λ p. Contains old (along axis p)) r in
    let Q : List Point → Type 0 = λ r. All (λ p. Contains (old ++ map (along axis) ring) (along axis p)) r in
    let here : Q ring = λ k d lt'. Contains-append_right old (map (along axis) ring) (along axis (get_or ring k d))
    (contains_map (along axis) ring k d lt') in
    let kept : All Q (take i rings) =
    All-weaker P Q (λ r h. All-weaker (λ p. Contains old (along axis p))
    (λ p. Contains (old ++ map (along axis) ring) (along axis p))
    (λ p c. Contains-append_left old (map (along axis) ring) (along axis p) c) r h) (take i rings) before in
    rw e (All-more Q rings i ring lt kept (subst Q is here))

-- each line of one more ring goes through a vertex
pub vertices_step : (axis : Axis) (old new : List ℤ) (rings : List (List Point)) (i : ℕ) (ring : List Point)
    → i < length rings → All (HasVertexAt axis (take i rings)) old → new ≡ old ++ map (along axis) ring
    → ring ≡ get_or rings i ring → All (HasVertexAt axis (take (i + 1) rings)) new
vertices_step axis old new rings i ring lt before e is =
    let At : ℤ → List Point → Type 0 = λ v r. Any (λ p. along axis p ≡ v) r in
    let longer : take (i + 1) rings ≡ take i rings ++ ring ∷ [] = rw (← is) at (take_more rings i ring lt) in
    let kept : All (HasVertexAt axis (take i rings ++ ring ∷ [])) old =
    All-weaker (HasVertexAt axis (take i rings)) (HasVertexAt axis (take i rings ++ ring ∷ []))
    (λ v a. Any-left (At v) (take i rings) (ring ∷ []) a) old before in
    let here : (p : Point) → Contains ring p → HasVertexAt axis (take i rings ++ ring ∷ []) (along axis p) =
    λ p c. (Any-push (At (along axis p)) (take i rings) ring).1
    (inr (some_contained (λ q. along axis q ≡ along axis p) ring p c refl)) in
    let added : All (HasVertexAt axis (take i rings ++ ring ∷ [])) (map (along axis) ring) =
    All-map (HasVertexAt axis (take i rings ++ ring ∷ [])) (along axis) ring
    (All-weaker (Contains ring) (λ p. HasVertexAt axis (take i rings ++ ring ∷ []) (along axis p)) here ring
    (All-contains_itself ring)) in
    rw (e, longer)
    (All-append (HasVertexAt axis (take i rings ++ ring ∷ [])) old (map (along axis) ring) kept added)

-- the coordinates of all vertices, sorted and without duplicates, are the lines
pub lines_done : (axis : Axis) (places sorted lines : List ℤ) (rings : List (List Point)) (i : ℕ) → length rings ≤ i
    → HasPlaces axis places (take i rings) → All (HasVertexAt axis (take i rings)) places
    → IsPermutation places sorted → IsSorted int_cmp sorted → lines ≡ dedup int_eq sorted
    → AreLinesOf rings axis lines
unfolding HasPlaces
lines_done axis places sorted lines rings i far h seen moved rising e =
    let P : List Point → Type 0 = λ r. All (λ p. Contains places (along axis p)) r in
    let Q : List Point → Type 0 = λ r. All (λ p. Contains (dedup int_eq sorted) (along axis p)) r in
    let all : All P rings = rw (take_all i rings far) at h in
    let exact : (x y : ℤ) → int_eq x y ≡ true → x ≡ y = λ x y t. (signed_Decides x y).0 t in
    let keeps : (x : ℤ) → Contains places x → Contains (dedup int_eq sorted) x = λ x c. Contains-dedup int_eq_equiv
    exact sorted x (Contains-permutation places sorted x moved c) in
    rw e (record {
      rising = IsStrictlySortedBy-dedup int_cmp_total {E = int_eq} (λ x y. refl) sorted rising;
      through =
          All-weaker P Q (λ r c. All-weaker (λ p. Contains places (along axis p))
          (λ p. Contains (dedup int_eq sorted) (along axis p)) (λ p k. keeps (along axis p) k) r c) rings all;
      only =
          All-dedup int_eq (HasVertexAt axis rings) sorted
          (All-permutation (HasVertexAt axis rings) places sorted moved (rw (take_all i rings far) at seen));
    })

pub built_none : (rings : List (List Point)) (xs ys : List ℤ) (rows : List (Vec Bool)) → rows ≡ []
    → AreRowsOf rings xs (take 0 ys) rows
unfolding AreRowsOf
built_none rings xs ys rows e = rw e tt

pub built_step : (rings : List (List Point)) (xs ys : List ℤ) (rows new : List (Vec Bool)) (i : ℕ) (y : ℤ)
    (row : Vec Bool) → i < length ys → AreRowsOf rings xs (take i ys) rows → new ≡ rows ++ row ∷ []
    → y ≡ get_or ys i (pos 0) → IsRowOf rings xs y row.items → AreRowsOf rings xs (take (i + 1) ys) new
unfolding AreRowsOf
built_step rings xs ys rows new i y row lt before e same reported =
    let R : ℤ → Vec Bool → Type 0 = λ v r. IsRowOf rings xs v r.items in
    let here : R (get_or ys i (pos 0)) row = subst (λ (v : ℤ). R v row) same reported in
    rw e (zip_more R ys rows i (pos 0) row lt before here)

pub built_done : (rings : List (List Point)) (xs ys : List ℤ) (rows : List (Vec Bool)) (i : ℕ) → length ys ≤ i
    → AreRowsOf rings xs (take i ys) rows → AreRowsOf rings xs ys rows
built_done rings xs ys rows i far h = rw (take_all i ys far) at h
