-- The faults of the steps are faults of the library.
use Rattle.std.proofs.Common.{◌≡◌, ℕ, zero, suc, ◌+◌, ◌<◌, ◌≤◌, ◌-◌, true, false, cond, get_or, ◌⊎◌, inl, inr}
use Rattle.std.proofs.Common.{⊎_elim, List, [], ◌∷◌, map, length, Option, Some, IfSome, All, Contains, refl, sym, ap}
use Rattle.std.proofs.Common.{◌∙◌, subst, arith}
use Rattle.std.specs.List.{slice_get, IsDistinct}
use Rattle.std.specs.Str.{bytes_eq}
use Rattle.std.proofs.lemmas.Option.{slice_get-get_or, slice_get_within, get_or_from_slice_get, slice_get-map}
use Rattle.std.specs.Option.{option_map}
use Rattle.std.proofs.lemmas.List.Elements.{All-nil, All-cons, All-head, All-tail, All-append, All-contains}
use Rattle.lvl_names.proofs.Elements.{contains_at}
use Rattle.std.proofs.lemmas.Slice.Eq.{bytes_eq-Decides}
use Rattle.std.proofs.Math.ListN.{length-map}
use Rattle.lvl_cells.specs.Cells.{PlainCell, PlainReference, Rings, each_ring, names}
use Rattle.lvl_profile.specs.Limits.{large}
use Rattle.lvl_profile.specs.declared.limits.Limits.{Limits}
use Rattle.lvl_cells.specs.Chains.{over_chains, own_rings}
use Rattle.lvl_cells.specs.Soundness.{links, AreLinked, IsRanked, IsTop, IsOrder}
use Rattle.lvl_cells.specs.Faults.{IsFaultOf}
use Rattle.lvl_cells.specs.inside.Steps.{AreAllTargets, IsCycleFault, IsTopFault}
use Rattle.lvl_cells.specs.Checks.{Settled, IsSettled, IsChecked, PlacesFew}
use Rattle.lvl_cells.specs.inside.Times.{HasFew, IsCountFault}
use Rattle.lvl_cells.specs.declared.fault.CellFault.{CellFault}
use Rattle.lvl_cells.specs.declared.fault.CellFault.TheVariants.{Cycle, TopMissing}
use Rattle.lvl_cells.specs.declared.fault.CellFault.TheVariants.{ManyTops, TooManyPlacements, TooManyRings}
use Rattle.lvl_cells.proofs.Missing.{named_links}
use Rattle.lvl_cells.proofs.Sequences.{item_there, one_answer}

pub linked_by : (cells : List (PlainCell Rings)) (tss : List (List ℕ)) → IsDistinct bytes_eq (names cells)
    → AreAllTargets cells tss → AreLinked cells
linked_by cells tss d t = record { distinct = d; named = named_links (names cells) cells tss t }

zero_or_more : (n : ℕ) → (n ≡ 0) ⊎ (0 < n)
zero_or_more zero = inl refl
zero_or_more (suc n) = inr (omega arith)

-- the distance of the first cell of that name from the end of the order
pub height : List (List ℕ) → List ℕ → List ℕ → ℕ
height all [] name = 0
height all (k ∷ ks) name = cond (bytes_eq (get_or all k []) name) (suc (length ks)) (height all ks name)

pub height_most : (all : List (List ℕ)) (order : List ℕ) (name : List ℕ) → height all order name ≤ length order
unfolding height
height_most all [] name = omega arith
height_most all (k ∷ ks) name =
    elim (bytes_eq (get_or all k []) name)
    as (λ b. cond b (suc (length ks)) (height all ks name) ≤ suc (length ks)) [
      | true ↦ omega arith
      | false ↦ omega (arith, height_most all ks name)
    ]

height_least : (all : List (List ℕ)) (order : List ℕ) (i k : ℕ) (a : List ℕ) → slice_get order i ≡ Some k
    → get_or all k [] ≡ a → length order - i ≤ height all order a
unfolding height
height_least all [] i k a o e = cc
height_least all (q ∷ qs) zero k a o e =
    let same : q ≡ k = cc in
    let yes : bytes_eq (get_or all q []) a ≡ true =
    (bytes_eq-Decides (get_or all q []) a).1 (ap (λ n. get_or all n []) same ∙ e) in
    rw yes (omega arith)
height_least all (q ∷ qs) (suc i) k a o e =
    elim (bytes_eq (get_or all q []) a)
    as (λ b. suc (length qs) - suc i ≤ cond b (suc (length qs)) (height all qs a)) [
      | true ↦ omega arith
      | false ↦ omega (arith, height_least all qs i k a o e)
    ]

-- the first cell of that name in the order, if there is one
height_from : (all : List (List ℕ)) (order : List ℕ) (b : List ℕ) → 0 < height all order b
    → (j : ℕ) × (l : ℕ) × (slice_get order j ≡ Some l) × (get_or all l [] ≡ b) × (height all order b + j ≡ length order)
unfolding height
height_from all [] b h = absurd (omega arith)
height_from all (q ∷ qs) b h =
    elim (bytes_eq (get_or all q []) b)
    as (λ t. bytes_eq (get_or all q []) b ≡ t → 0 < cond t (suc (length qs)) (height all qs b)
    → (j : ℕ) × (l : ℕ) × (slice_get (q ∷ qs) j ≡ Some l) × (get_or all l [] ≡ b)
    × (cond t (suc (length qs)) (height all qs b) + j ≡ suc (length qs))) [
      | true ↦ λ e g. (zero, q, refl, (bytes_eq-Decides (get_or all q []) b).0 e, omega arith)
      | false ↦ λ e g. let r = height_from all qs b g in (suc r.0, r.1, r.2, r.3, omega (arith, r.4))
    ] refl h

abbrev IsFromOne : List (List ℕ) → (List ℕ × List ℕ) → Type 0
IsFromOne all link = Contains all link.0

pairs_from : (all : List (List ℕ)) (from : List ℕ) (refs : List PlainReference) → Contains all from
    → All (IsFromOne all) (map {B = List ℕ × List ℕ} (λ r. (from, r.cell)) refs)
pairs_from all from [] h = All-nil (IsFromOne all)
pairs_from all from (r ∷ rs) h =
    All-cons (IsFromOne all) (from, r.cell) (map {B = List ℕ × List ℕ} (λ (q : PlainReference). (from, q.cell)) rs) h
    (pairs_from all from rs h)

all_from : (all : List (List ℕ)) (cs : List (PlainCell Rings)) → All (λ c. Contains all c.name) cs
    → All (IsFromOne all) (links cs)
all_from all [] h = All-nil (IsFromOne all)
all_from all (c ∷ cs) h =
    let there : PlainCell Rings → Type 0 = λ q. Contains all q.name in
    All-append (IsFromOne all) (map {B = List ℕ × List ℕ} (λ (r : PlainReference). (c.name, r.cell)) c.references)
    (links cs) (pairs_from all c.name c.references (All-head there c cs h))
    (all_from all cs (All-tail there c cs h))

named_themselves : (cells : List (PlainCell Rings)) → All (λ c. Contains (names cells) c.name) cells
named_themselves cells =
    let name_of : PlainCell Rings → List ℕ = λ x. x.name in
    λ k d h. contains_at (names cells) k (get_or cells k d).name
    (slice_get-map name_of cells k ∙ ap (option_map name_of) (slice_get-get_or cells k d h))

from_is_name : (cells : List (PlainCell Rings)) (a b : List ℕ) → Contains (links cells) (a, b)
    → Contains (names cells) a
from_is_name cells a b h =
    All-contains (IsFromOne (names cells)) (links cells) (a, b) (all_from (names cells) cells (named_themselves cells))
    h

pub falls_by : (cells : List (PlainCell Rings)) (order : List ℕ) → AreLinked cells → IsOrder cells order
    → (a b : List ℕ) → Contains (links cells) (a, b) → height (names cells) order b < height (names cells) order a
falls_by cells order l o a b h =
    let all : List (List ℕ) = names cells in
    let from = from_is_name cells a b h in
    let name_of : PlainCell Rings → List ℕ = λ x. x.name in
    let within : from.0 < length cells = omega (arith, from.1, length-map cells name_of) in
    let place = o.there from.0 within in
    let at : slice_get order place.0 ≡ Some from.0 = slice_get-get_or order place.0 from.0 place.1 ∙ ap Some place.2 in
    let a_at : slice_get all from.0 ≡ Some a = slice_get-get_or all from.0 a from.1 ∙ ap Some from.2 in
    let high = height_least all order place.0 from.0 a at (get_or_from_slice_get all from.0 a [] a_at) in
    ⊎_elim (λ low. omega (arith, low, high, place.1))
    (λ some.
    let first = height_from all order b some in
    let l_in : first.1 < length cells =
    subst (λ n. n < length cells) (get_or_from_slice_get order first.0 first.1 first.1 first.2)
    (o.within first.0 first.1 (slice_get_within order first.0 first.1 first.2)) in
    let b_at : slice_get all first.1 ≡ Some b =
    slice_get-get_or all first.1 [] (omega (arith, l_in, length-map cells name_of)) ∙ ap Some first.3 in
    let before = o.falls place.0 first.0 from.0 first.1 a b at first.2 a_at b_at h in
    omega (arith, before, high, first.4, slice_get_within order first.0 first.1 first.2))
    (zero_or_more (height all order b))

pub ranked_by : (cells : List (PlainCell Rings)) (order : List ℕ) → AreLinked cells → IsOrder cells order
    → IsRanked cells
ranked_by cells order l o =
    let all : List (List ℕ) = names cells in (
      height all order,
      λ k d h.
          let link : List ℕ × List ℕ = get_or (links cells) k d in
          let there : Contains (links cells) (link.0, link.1) =
          contains_at (links cells) k link (slice_get-get_or (links cells) k d h) in
          falls_by cells order l o link.0 link.1 there,
    )

pub cycle_fault : (limits : Limits) (cells : List (PlainCell Rings)) (given : Option (List ℕ)) (f : CellFault) → AreLinked cells
    → IsCycleFault cells f → IsFaultOf limits cells given f
cycle_fault limits cells given (Cycle round) l h = (l, h)
cycle_fault limits cells given _ l h = absurd h

pub top_fault : (limits : Limits) (cells : List (PlainCell Rings)) (given : Option (List ℕ)) (f : CellFault) → 0 < length cells
    → AreLinked cells → IsRanked cells → IsTopFault cells given f → IsFaultOf limits cells given f
top_fault limits cells given TopMissing n l r h =
    (l, r, (λ e. let none : length cells ≡ 0 = ap length e in absurd (omega (arith, n))), h)
top_fault limits cells given ManyTops n l r h = (l, r, h.0, h.1)
top_fault limits cells given _ n l r h = absurd h

pub count_fault : (limits : Limits) (s : Settled) (given : Option (List ℕ)) (f : CellFault) → AreLinked s.cells
    → IsRanked s.cells → IsTop s.cells given s.top → IsCountFault limits s f → IsFaultOf limits s.cells given f
count_fault limits s given TooManyPlacements l r t h = record {
  index = s.top;
  cell = h.top;
  sound = record { linked = l; ranked = r; is_top = t };
  is = h.is_top;
  counts = h.more;
}
count_fault limits s given TooManyRings l r t h =
    let same : h.0.top ≡ h.1.top = one_answer h.0.is_top h.1.is_top in
    record {
      index = s.top;
      cell = h.1.top;
      sound = record { linked = l; ranked = r; is_top = t };
      is = h.1.is_top;
      counts = (
        subst (λ (c : PlainCell Rings). over_chains (λ _. 1) s.cells (length s.cells) c ≤ limits.placed) same h.0.few,
        h.1.more,
      );
    }
count_fault limits s given _ l r t h = absurd h

-- few chains and few rings are within the limits
pub places_few : (limits : Limits) (s : Settled) → HasFew (λ _. 1) s limits.placed
    → HasFew (own_rings each_ring) s limits.placed → IfSome (slice_get s.cells s.top) (PlacesFew limits s.cells)
places_few limits s one own =
    let same : one.top ≡ own.top = one_answer one.is_top own.is_top in
    let counts : PlacesFew limits s.cells own.top = record {
      few_chains =
          subst (λ (c : PlainCell Rings). over_chains (λ _. 1) s.cells (length s.cells) c ≤ limits.placed) same
          one.few;
      few_rings = own.few;
    } in
    subst (λ o. IfSome o (PlacesFew limits s.cells)) (sym own.is_top) counts

pub settled_by : (limits : Limits) (cells : List (PlainCell Rings)) (given : Option (List ℕ)) (order : List ℕ) (k : ℕ)
    → AreLinked cells → IsOrder cells order → IsTop cells given k → k < length cells
    → IfSome (slice_get cells k) (PlacesFew limits cells)
    → IsSettled limits given (record { cells = cells; top = k; order = order })
settled_by limits cells given order k l o t h few =
    let at = item_there cells k h in
    let counts : PlacesFew limits cells at.0 = rw at.1 at few in
    record {
      cell = at.0;
      sound = record { linked = l; ranked = ranked_by cells order l o; is_top = t };
      sorted = o;
      is = at.1;
      few_chains = counts.few_chains;
      few_rings = counts.few_rings;
    }

-- a checked library is one with any cell as its top that places few enough, by that cell's name
pub rooted_checked : (s : Settled) (k : ℕ) → IsChecked s → k < length s.cells
    → IfSome (slice_get s.cells k) (PlacesFew large s.cells)
    → IsChecked (record { cells = s.cells; top = k; order = s.order })
rooted_checked s k checked within few =
    let name_of : PlainCell Rings → List ℕ = λ x. x.name in
    let at = item_there s.cells k within in
    record {
      limits = large;
      given = Some at.0.name;
      settled =
          settled_by large s.cells (Some at.0.name) s.order k checked.settled.sound.linked checked.settled.sorted
          (slice_get-map name_of s.cells k ∙ ap (option_map name_of) at.1) within few;
      narrow = omega arith;
    }
