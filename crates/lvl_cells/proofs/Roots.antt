-- The cells to which no cell refers.
use Rattle.std.proofs.Common.{◌≡◌, ◌≢◌, ℕ, zero, suc, ◌+◌, ◌<◌, ◌≤◌, set, Bool, true, false, List, [], ◌∷◌, ◌++◌, map}
use Rattle.std.proofs.Common.{length, ◌⊎◌, inl, inr, ⊎_elim, ◌↔◌, Some, None, Contains, refl, sym, ap, ◌∙◌, subst}
use Rattle.std.proofs.Common.{take, drop, get_or, replicate, All, arith}
use Rattle.std.specs.List.{slice_get}
use Rattle.std.specs.Option.{option_map}
use Rattle.std.proofs.lemmas.List.{append-nil, get_or-replicate, length-replicate}
use Rattle.lvl_cells.proofs.NamedTargets.{take_past}
use Rattle.std.proofs.lemmas.List.Elements.{All-contains}
use Rattle.std.proofs.lemmas.Option.{get_or_from_slice_get, slice_get-map, slice_get_within}
use Rattle.lvl_cells.specs.Cells.{PlainCell, Rings, names}
use Rattle.lvl_cells.specs.Soundness.{links, AreLinked, IsReferred, IsOrder, IsTop}
use Rattle.lvl_cells.specs.Faults.{HasTwoTops}
use Rattle.lvl_cells.specs.inside.Steps.{AreAllTargets}
use Rattle.lvl_cells.specs.inside.Walking.{IsArc, EachTargetWithin}
use Rattle.lvl_cells.specs.inside.Topping.{IsTarget, HasOtherRoot}
use Rattle.lvl_names.proofs.Elements.{contains_at, at_contains}
use Rattle.lvl_cells.proofs.Arcs.{order_of_two, link_of, arc_from_link, link_from_arc}
use Rattle.lvl_cells.proofs.Orders.{rows_long, names_long}
use Rattle.lvl_cells.proofs.Sequences.{one_answer, item_there}
use Rattle.lvl_cells.proofs.Walks.{same_or_not, set_there, set_elsewhere}

-- the targets before index i are marked, and those that were marked before
abbrev pub AreMarked : List Bool → List Bool → List ℕ → ℕ → Type 0
AreMarked old new places i =
    (k : ℕ)
    → (slice_get new k ≡ Some true)
    ↔ ((slice_get old k ≡ Some true) ⊎ ((q : ℕ) × (q < i) × (slice_get places q ≡ Some k)))

-- one more target is marked
pub marked_next : (old new : List Bool) (places : List ℕ) (i p : ℕ) → slice_get places i ≡ Some p → p < length new
    → AreMarked old new places i → AreMarked old (set new p true) places (i + 1)
marked_next old new places i p at low inv k =
    let was = item_there new p low in
    ⊎_elim (λ e. (
      λ h. inr (i, omega arith, at ∙ ap Some (sym e)),
      λ h. subst (λ n. slice_get (set new p true) n ≡ Some true) (sym e) (set_there new p was.0 true was.1),
    ))
    (λ n. (
      λ h. ⊎_elim (λ a. inl a) (λ w. inr (w.0, omega (arith, w.1), w.2))
          ((inv k).0 (sym (set_elsewhere new p k true n) ∙ h)),
      λ h.
          set_elsewhere new p k true n
          ∙ (inv k).1 (⊎_elim (λ a. inl a)
          (λ w.
          let apart : w.0 ≢ i =
          λ s. n (one_answer (subst (λ q. slice_get places q ≡ Some k) s w.2) at) in
          inr (w.0, omega (arith, w.1, apart), w.2)) h),
    )) (same_or_not k p)

-- all targets are marked
pub marked_all : (old new : List Bool) (places : List ℕ) (i : ℕ) → length places ≤ i → AreMarked old new places i
    → (k : ℕ) → (slice_get new k ≡ Some true) ↔ ((slice_get old k ≡ Some true) ⊎ Contains places k)
marked_all old new places i past inv k = (
  λ h. ⊎_elim (λ a. inl a) (λ w. inr (contains_at places w.0 k w.2)) ((inv k).0 h),
  λ h.
      (inv k).1 (⊎_elim (λ a. inl a)
      (λ c. let at = at_contains places k c in
      inr (at.0, omega (arith, past, slice_get_within places at.0 k at.1), at.1)) h),
)

drop_past : (xs : List Bool) (n : ℕ) → length xs ≤ n → drop n xs ≡ []
drop_past [] zero h = refl
drop_past [] (suc n) h = refl
drop_past (x ∷ xs) zero h = absurd (omega arith)
drop_past (x ∷ xs) (suc n) h = drop_past xs n (omega arith)

-- a list whose slice of all items is replaced
pub written_whole : (old new : List Bool) (n : ℕ) → length new ≡ length old → n ≡ length old
    → take n (new ++ drop (length new) old) ≡ new
written_whole old new n h e =
    let none : drop (length new) old ≡ [] = drop_past old (length new) (omega (arith, h)) in
    ap (λ (t : List Bool). take n (new ++ t)) none
    ∙ (ap (take n) (append-nil new) ∙ take_past new n (omega (arith, h, e)))

-- the targets of the first i cells are marked
abbrev pub AreMarkedBefore : List Bool → List (List ℕ) → ℕ → Type 0
AreMarkedBefore marks targets i =
    (k : ℕ) → (slice_get marks k ≡ Some true) ↔ ((a : ℕ) × (j : ℕ) × (a < i) × IsArc targets a j k)

-- at first no target is marked
pub none_marked : (n : ℕ) (targets : List (List ℕ)) → AreMarkedBefore (replicate n false) targets 0
none_marked n targets k = (
  λ h. let low : k < n = omega (arith, slice_get_within (replicate n false) k true h, length-replicate n false) in
      let no : false ≡ true =
      sym (get_or-replicate n k false true low) ∙ get_or_from_slice_get (replicate n false) k true true h in
      cc,
  λ w. absurd (omega (arith, w.2)),
)

-- the targets of each row are within the number of cells
pub row_within : (targets : List (List ℕ)) (i : ℕ) (ts : List ℕ) (n : ℕ) → slice_get targets i ≡ Some ts
    → n ≡ length targets → EachTargetWithin targets (length targets) → All (λ k. k < n) ts
row_within targets i ts n at long within =
    let low : i < length targets = slice_get_within targets i ts at in
    let row : get_or targets i ts ≡ ts = get_or_from_slice_get targets i ts ts at in
    let all : All (λ k. k < length targets) (get_or targets i ts) = within i ts low in
    subst (λ m. All (λ k. k < m) ts) (sym long) (subst (λ (us : List ℕ). All (λ k. k < length targets) us) row all)

pub referred_more : (old new : List Bool) (targets : List (List ℕ)) (i : ℕ) (ts : List ℕ)
    → slice_get targets i ≡ Some ts → AreMarkedBefore old targets i
    → ((k : ℕ) → (slice_get new k ≡ Some true) ↔ ((slice_get old k ≡ Some true) ⊎ Contains ts k))
    → AreMarkedBefore new targets (i + 1)
referred_more old new targets i ts at inv more k = (
  λ h. ⊎_elim (λ w. let a = (inv k).0 w in (a.0, a.1, omega (arith, a.2), a.3))
      (λ w. let b = at_contains ts k w in (i, b.0, omega arith, (ts, at, b.1))) ((more k).0 h),
  λ w.
      (more k).1 (⊎_elim
      (λ e.
      let arc : IsArc targets i w.1 k = subst (λ q. IsArc targets q w.1 k) e w.3 in
      let same : arc.0 ≡ ts = one_answer arc.1 at in
      inr (contains_at ts w.1 k (subst (λ (u : List ℕ). slice_get u w.1 ≡ Some k) same arc.2)))
      (λ n. inl ((inv k).1 (w.0, w.1, omega (arith, w.2, n), w.3))) (same_or_not w.0 i)),
)

-- a cell is a target exactly if some cell refers to its name
pub referred_from_target : (cells : List (PlainCell Rings)) (targets : List (List ℕ)) (k : ℕ) (name : List ℕ)
    → AreAllTargets cells targets → slice_get (names cells) k ≡ Some name → IsTarget targets k → IsReferred cells name
referred_from_target cells targets k name t at w =
    let low : w.0 < length (names cells) =
    omega (arith, slice_get_within targets w.0 w.2.0 w.2.1, rows_long cells targets t, names_long cells) in
    let from = item_there (names cells) w.0 low in
    let link =
    at_contains (links cells) (from.0, name) (link_from_arc cells targets w.0 w.1 k from.0 name t from.1 at w.2) in
    let to : (List ℕ × List ℕ) → List ℕ = λ p. p.1 in
    contains_at (map to (links cells)) link.0 name (slice_get-map to (links cells) link.0 ∙ ap (option_map to) link.1)

link_to : (all : List (List ℕ × List ℕ)) (name : List ℕ) → Contains (map (λ p. p.1) all) name
    → (from : List ℕ) × Contains all (from, name)
link_to all name h =
    let to : (List ℕ × List ℕ) → List ℕ = λ p. p.1 in
    let at = at_contains (map to all) name h in
    let read : option_map to (slice_get all at.0) ≡ Some name = sym (slice_get-map to all at.0) ∙ at.1 in
    elim (slice_get all at.0)
    as (λ o. slice_get all at.0 ≡ o → option_map to o ≡ Some name → (from : List ℕ) × Contains all (from, name)) [
      | None ↦ λ e g. cc
      | Some p ↦
          λ e g. let same : p.1 ≡ name = cc in
          (p.0, subst (λ (n : List ℕ). Contains all (p.0, n)) same (contains_at all at.0 p e))
    ] refl read

pub target_from_referred : (cells : List (PlainCell Rings)) (targets : List (List ℕ)) (k : ℕ) (name : List ℕ)
    → AreLinked cells → AreAllTargets cells targets → slice_get (names cells) k ≡ Some name → IsReferred cells name
    → IsTarget targets k
target_from_referred cells targets k name l t at h =
    let name_of : PlainCell Rings → List ℕ = λ c. c.name in
    let link = link_to (links cells) name h in
    let w = link_of cells link.0 name link.1 in
    let named : slice_get (names cells) w.place ≡ Some link.0 =
    slice_get-map name_of cells w.place ∙ (ap (option_map name_of) w.cell_is ∙ ap Some w.name_is) in
    let arc = arc_from_link cells targets w.place k link.0 name l.distinct t named at link.1 in
    (w.place, arc.0, arc.1)

pub root_within : (cells : List (PlainCell Rings)) (order : List ℕ) (root : ℕ) → IsOrder cells order
    → slice_get order 0 ≡ Some root → root < length cells
root_within cells order root o first =
    All-contains (λ k. k < length cells) order root o.within (contains_at order 0 root first)

-- no cell refers to the first cell of an order
pub first_is_free : (cells : List (PlainCell Rings)) (targets : List (List ℕ)) (order : List ℕ) (root : ℕ)
    → AreAllTargets cells targets → IsOrder cells order → slice_get order 0 ≡ Some root → IsTarget targets root → ⊥
first_is_free cells targets order root t o first w =
    let a_low : w.0 < length cells =
    omega (arith, slice_get_within targets w.0 w.2.0 w.2.1, rows_long cells targets t) in
    let root_low : root < length cells = root_within cells order root o first in
    let a = item_there (names cells) w.0 (omega (arith, a_low, names_long cells)) in
    let b = item_there (names cells) root (omega (arith, root_low, names_long cells)) in
    let link = link_from_arc cells targets w.0 w.1 root a.0 b.0 t a.1 b.1 w.2 in
    let place = at_contains order w.0 (o.there w.0 a_low) in
    absurd (omega (arith, o.falls place.0 0 w.0 root a.0 b.0 place.1 first a.1 b.1 link))

-- if some cell refers to each cell but the root, the root is the top
pub top_by : (cells : List (PlainCell Rings)) (targets : List (List ℕ)) (order : List ℕ) (root : ℕ)
    → AreLinked cells → AreAllTargets cells targets → IsOrder cells order → slice_get order 0 ≡ Some root
    → (HasOtherRoot targets root → ⊥) → IsTop cells None root
top_by cells targets order root l t o first alone = (
  root_within cells order root o first,
  λ j name at. (
    λ free.
        ⊎_elim (λ e. e)
        (λ n.
        absurd (alone (record {
          other = j;
          low = omega (arith, slice_get_within (names cells) j name at, names_long cells, rows_long cells targets t);
          apart = n;
          free = λ w. free (referred_from_target cells targets j name t at w);
        }))) (same_or_not j root),
    λ e h. first_is_free cells targets order root t o first
        (subst (IsTarget targets) e (target_from_referred cells targets j name l t at h)),
  ),
)

-- two cells to which no cell refers
pub two_tops_by : (cells : List (PlainCell Rings)) (targets : List (List ℕ)) (order : List ℕ) (root : ℕ)
    → AreLinked cells → AreAllTargets cells targets → IsOrder cells order → slice_get order 0 ≡ Some root
    → HasOtherRoot targets root → HasTwoTops cells
two_tops_by cells targets order root l t o first h =
    let a = item_there (names cells) root (omega (arith, root_within cells order root o first, names_long cells)) in
    let b = item_there (names cells) h.other (omega (arith, h.low, rows_long cells targets t, names_long cells)) in
    let a_free : IsReferred cells a.0 → ⊥ =
    λ w. first_is_free cells targets order root t o first (target_from_referred cells targets root a.0 l t a.1 w) in
    let b_free : IsReferred cells b.0 → ⊥ = λ w. h.free (target_from_referred cells targets h.other b.0 l t b.1 w) in
    ⊎_elim (λ e. absurd (h.apart (sym e)))
    (λ o2.
    ⊎_elim
    (λ lt. record {
      first = root;
      second = h.other;
      first_name = a.0;
      second_name = b.0;
      apart = lt;
      first_is = a.1;
      second_is = b.1;
      first_free = a_free;
      second_free = b_free;
    })
    (λ lt. record {
      first = h.other;
      second = root;
      first_name = b.0;
      second_name = a.0;
      apart = lt;
      first_is = b.1;
      second_is = a.1;
      first_free = b_free;
      second_free = a_free;
    }) o2) (order_of_two root h.other)

-- the root is passed
pub root_passed : (marks : List Bool) (root n : ℕ) → ((j : ℕ) → j < n → slice_get marks j ≡ Some false → j ≡ root)
    → n ≡ root → (j : ℕ) → j < n + 1 → slice_get marks j ≡ Some false → j ≡ root
root_passed marks root n only is j low e =
    ⊎_elim (λ s. s ∙ is) (λ apart. only j (omega (arith, low, apart)) e) (same_or_not j n)

-- a mark that is set is passed
pub set_passed : (marks : List Bool) (root n : ℕ) → ((j : ℕ) → j < n → slice_get marks j ≡ Some false → j ≡ root)
    → slice_get marks n ≡ Some true → (j : ℕ) → j < n + 1 → slice_get marks j ≡ Some false → j ≡ root
set_passed marks root n only is j low e =
    ⊎_elim (λ s. let same : false ≡ true = one_answer (subst (λ q. slice_get marks q ≡ Some false) s e) is in cc)
    (λ apart. only j (omega (arith, low, apart)) e) (same_or_not j n)

-- another mark than that of the root is unset
abbrev pub HasOtherUnset : List Bool → ℕ → Type 0
HasOtherUnset marks root = (k : ℕ) × (k ≢ root) × (slice_get marks k ≡ Some false)

pub none_other : (marks : List Bool) (root n : ℕ) → ((j : ℕ) → j < n → slice_get marks j ≡ Some false → j ≡ root)
    → length marks ≤ n → HasOtherUnset marks root → ⊥
none_other marks root n only past w =
    w.1 (only w.0 (omega (arith, past, slice_get_within marks w.0 false w.2)) w.2)

-- another mark than that of the root is unset exactly if there is another root
pub other_root : (marks : List Bool) (targets : List (List ℕ)) (root : ℕ)
    → ((k : ℕ) → (slice_get marks k ≡ Some true) ↔ IsTarget targets k) → length marks ≡ length targets
    → HasOtherUnset marks root ↔ HasOtherRoot targets root
other_root marks targets root marked long = (
  λ w. record {
    other = w.0;
    low = omega (arith, long, slice_get_within marks w.0 false w.2);
    apart = w.1;
    free = λ t. let same : false ≡ true = one_answer w.2 ((marked w.0).1 t) in cc;
  },
  λ h. let at = item_there marks h.other (omega (arith, h.low, long)) in
      elim at.0 as (λ b. slice_get marks h.other ≡ Some b → HasOtherUnset marks root) [
        | true ↦ λ e. absurd (h.free ((marked h.other).0 e))
        | false ↦ λ e. (h.other, h.apart, e)
      ] at.1,
)
