-- A sum over the chains from a cell, by those over the chains from the cells that it refers to.
use Rattle.std.proofs.Common.{◌≡◌, ℕ, zero, suc, ◌+◌, ◌*◌, ◌<◌, ◌≤◌, true, false, cond, List, [], ◌∷◌, map}
use Rattle.std.proofs.Common.{length, get_or, Option, Some, All, sum_by, refl, sym, ap, ◌∙◌}
use Rattle.std.proofs.Common.{subst, arith}
use Rattle.std.specs.List.{slice_get, IsDistinct}
use Rattle.std.specs.Str.{bytes_eq}
use Rattle.std.specs.Bool.{nat_eq}
use Rattle.std.specs.Option.{option_map, option_map_or}
use Rattle.std.proofs.lemmas.Bool.Decides.{Decides-eqb}
use Rattle.std.proofs.lemmas.Map.Keys.{IsDistinct-tail, IsDistinct-from_apart}
use Rattle.std.proofs.lemmas.Map.Steps.{length-le_from_distinct_below}
use Rattle.std.proofs.lemmas.Map.Views.{Contains-from_any}
use Rattle.std.proofs.lemmas.Slice.Eq.{bytes_eq-Decides}
use Rattle.std.proofs.lemmas.List.Elements.{All-contains}
use Rattle.std.proofs.lemmas.Option.{slice_get-map, slice_get_within, slice_get-get_or}
use Rattle.lvl_cells.specs.Cells.{PlainCell, PlainReference, Rings, names, cell_named}
use Rattle.lvl_cells.specs.Chains.{over_chains}
use Rattle.lvl_cells.specs.Soundness.{AreLinked, IsOrder}
use Rattle.lvl_cells.specs.inside.Steps.{AreAllTargets}
use Rattle.lvl_names.proofs.Elements.{contains_at}
use Rattle.lvl_cells.proofs.Arcs.{once_named, is_link, row_of, reference_in_row}
use Rattle.lvl_cells.proofs.Counting.{FallsFrom, over_chains_is}
use Rattle.lvl_cells.proofs.Examining.{height, height_most, falls_by}
use Rattle.std.proofs.Math.ListN.{length-map}
use Rattle.std.proofs.lemmas.Bool.{false_from_ne_true}
use Rattle.lvl_cells.proofs.Orders.{names_long}
use Rattle.lvl_cells.proofs.Sequences.{one_answer}

-- in a library with distinct names, the cell at an index is the one of its name
pub named_at : (cells : List (PlainCell Rings)) (t : ℕ) (d : PlainCell Rings) → IsDistinct bytes_eq (names cells)
    → slice_get cells t ≡ Some d → cell_named cells d.name ≡ Some d
named_at [] t d u h = cc
named_at (c ∷ cs) zero d u h =
    let same : c ≡ d = cc in
    let yes : bytes_eq c.name d.name ≡ true =
    (bytes_eq-Decides c.name d.name).1 (ap (λ (q : PlainCell Rings). q.name) same) in
    rw yes (ap Some same)
named_at (c ∷ cs) (suc t) d u h =
    let name_of : PlainCell Rings → List ℕ = λ q. q.name in
    let rest : cell_named cs d.name ≡ Some d = named_at cs t d (IsDistinct-tail bytes_eq c.name (names cs) u) h in
    elim (bytes_eq c.name d.name)
    as (λ b. bytes_eq c.name d.name ≡ b → cond b (Some c) (cell_named cs d.name) ≡ Some d) [
      | true ↦ λ e.
          let at : slice_get (names (c ∷ cs)) (suc t) ≡ Some d.name =
          slice_get-map name_of cs t ∙ ap (option_map name_of) h in
          let here : slice_get (names (c ∷ cs)) zero ≡ Some d.name = ap Some ((bytes_eq-Decides c.name d.name).0 e) in
          let one : zero ≡ suc t = once_named (names (c ∷ cs)) zero (suc t) d.name u here at in
          absurd (omega (arith, one))
      | false ↦ λ e. rest
    ] refl

distinct_numbers : (xs : List ℕ) → ((i j x : ℕ) → slice_get xs i ≡ Some x → slice_get xs j ≡ Some x → i ≡ j)
    → IsDistinct nat_eq xs
distinct_numbers xs once =
    IsDistinct-from_apart nat_eq xs (λ i j d lt le.
    let x : ℕ = get_or xs i d in
    let y : ℕ = get_or xs j d in
    false_from_ne_true (nat_eq x y) (λ e.
    let same : x ≡ y = (Decides-eqb x y).0 e in
    let at_i : slice_get xs i ≡ Some x = slice_get-get_or xs i d (omega (arith, lt, le)) in
    let at_j : slice_get xs j ≡ Some x = slice_get-get_or xs j d le ∙ ap Some (sym same) in
    let one : i ≡ j = once i j x at_i at_j in
    absurd (omega (arith, one, lt))))

-- an order has no more cells than the library
pub order_long : (cells : List (PlainCell Rings)) (order : List ℕ) → IsOrder cells order → length order ≤ length cells
order_long cells order o =
    length-le_from_distinct_below order (length cells) (distinct_numbers order o.once)
    (λ q h. All-contains (λ k. k < length cells) order q o.within
    (Contains-from_any (λ x y e. (Decides-eqb x y).0 e) q order h))

-- the height in the order decreases along each reference
falls_each : (cells : List (PlainCell Rings)) (order : List ℕ) → AreLinked cells → IsOrder cells order
    → (k : ℕ) (c : PlainCell Rings) → slice_get cells k ≡ Some c → FallsFrom (height (names cells) order) c
falls_each cells order l o k c h =
    λ j d hj.
    let r : PlainReference = get_or c.references j d in
    let at : slice_get c.references j ≡ Some r = slice_get-get_or c.references j d hj in
    falls_by cells order l o c.name r.cell (is_link cells k c j r h at)

-- what is added up over the chains from a cell, by the sums of the cells that it refers to
pub count_step : (w : PlainCell Rings → ℕ) (cells : List (PlainCell Rings)) (order : List ℕ) (k : ℕ)
    (c : PlainCell Rings) → AreLinked cells → IsOrder cells order → slice_get cells k ≡ Some c
    → over_chains w cells (length cells) c
    ≡ w c
    + sum_by (λ r. length r.shifts * option_map_or (over_chains w cells (length cells)) (cell_named cells r.cell) 0)
    c.references
count_step w cells order k c l o h =
    let rank : List ℕ → ℕ = height (names cells) order in
    over_chains_is w cells rank (length cells)
    (λ j d hj. falls_each cells order l o j (get_or cells j d) (slice_get-get_or cells j d hj)) c
    (falls_each cells order l o k c h)
    (omega (arith, height_most (names cells) order c.name, order_long cells order o))

pub place_within : (cells : List (PlainCell Rings)) (order : List ℕ) (i k : ℕ) → IsOrder cells order
    → slice_get order i ≡ Some k → k < length cells
place_within cells order i k o h = All-contains (λ n. n < length cells) order k o.within (contains_at order i k h)

-- a row has as many targets as the cell has references, all of them cells
pub row_fits : (cells : List (PlainCell Rings)) (targets : List (List ℕ)) (k : ℕ) (c : PlainCell Rings)
    (ts : List ℕ) → AreAllTargets cells targets → slice_get cells k ≡ Some c → slice_get targets k ≡ Some ts
    → (length ts ≡ length c.references) × All (λ b. b < length cells) ts
row_fits cells targets k c ts t hk ht =
    let row = row_of cells targets k c t hk in
    let same : row.0 ≡ ts = one_answer row.1 ht in
    let reach : List ℕ → List (Option (List ℕ)) = λ u. map (slice_get (names cells)) u in
    let asked : PlainReference → Option (List ℕ) = λ r. Some r.cell in
    let here : reach ts ≡ map asked c.references =
    subst (λ (u : List ℕ). reach u ≡ map asked c.references) same row.2 in (
      sym (length-map ts (slice_get (names cells))) ∙ (ap length here ∙ length-map c.references asked),
      λ j d hj.
          let at : slice_get ts j ≡ Some (get_or ts j d) = slice_get-get_or ts j d hj in
          let from = reference_in_row (names cells) ts c.references j (get_or ts j d) here at in
          omega (arith, slice_get_within (names cells) (get_or ts j d) from.0.cell from.2, names_long cells),
    )
