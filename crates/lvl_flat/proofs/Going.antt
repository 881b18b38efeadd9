-- Each step of the walk leaves fewer steps.
use Rattle.std.proofs.Common.{◌≡◌, ◌<◌, ◌≤◌, ◌++◌, ◌+◌, ◌-◌, ℕ, zero, suc, List, [], ◌∷◌, length, sum_by}
use Rattle.std.proofs.Common.{refl, slice_get, Option, inl, inr, ap, subst, ◌∙◌, arith}
use Rattle.std.specs.Option.{option_map_or}
use Rattle.std.proofs.lemmas.List.Sums.{sum_by_push}
use Rattle.lvl_grid.specs.declared.map.Map.{Map}
use Rattle.lvl_grid.specs.declared.point.Window.{Window}
use Rattle.lvl_cells.specs.Cells.{PlainCell, Rings}
use Rattle.lvl_cells.specs.Checks.{Settled}
use Rattle.lvl_cells.specs.Soundness.{AreLinked, IsOrder}
use Rattle.lvl_flat.specs.declared.bounds.Bounds.{Bounds}
use Rattle.lvl_flat.specs.declared.visit.Visit.{Visit}
use Rattle.lvl_flat.specs.inside.Visits.{pick_weight, visit_weight}
use Rattle.lvl_flat.specs.inside.Walking.{references_left, toil, work}
use Rattle.lvl_flat.specs.inside.Steps.{IsInto}
use Rattle.lvl_flat.specs.inside.Entering.{begun, IsPushed}
use Rattle.lvl_flat.specs.inside.Passing.{at_place, IsMissedAt, IsPassedBy}
use Rattle.lvl_flat.proofs.Stepping.{pending_alike, left_alike}
use Rattle.lvl_flat.proofs.Walking.{weight_begun, weight_into}

-- fewer steps are left after each
pub less_done : (cells : List (PlainCell Rings)) (front : List Visit) (v : Visit)
    → work cells front < work cells (front ++ v ∷ [])
less_done cells front v =
    omega (arith, sum_by_push (visit_weight toil cells) front v, sum_by_push (λ u. 1 + references_left cells u) front v)

-- no more are left if a visit isn't put on the stack
pub less_left_out : (cells : List (PlainCell Rings)) (front pushed : List Visit) (v u : Visit)
    → IsPushed cells front v pushed → work cells (pushed ++ u ∷ []) ≤ work cells ((front ++ v ∷ []) ++ u ∷ [])
less_left_out cells front pushed v u (inl is) =
    let same : work cells (pushed ++ u ∷ []) ≡ work cells ((front ++ v ∷ []) ++ u ∷ []) =
    ap (λ vs. work cells (vs ++ u ∷ [])) is in
    omega (arith, same)
less_left_out cells front pushed v u (inr none) =
    let weight : Visit → ℕ = visit_weight toil cells in
    let left : Visit → ℕ = λ w. 1 + references_left cells w in
    let same : work cells (pushed ++ u ∷ []) ≡ work cells (front ++ u ∷ []) =
    ap (λ vs. work cells (vs ++ u ∷ [])) none.0 in
    omega (
      arith,
      same,
      sum_by_push weight front u,
      sum_by_push weight front v,
      sum_by_push weight (front ++ v ∷ []) u,
      sum_by_push left front u,
      sum_by_push left front v,
      sum_by_push left (front ++ v ∷ []) u,
    )

pub less_into : (s : Settled) (front : List Visit) (v : Visit) (i : ℕ) (m : Map) (rest : Visit) → AreLinked s.cells
    → IsOrder s.cells s.order → IsInto s.cells v i m rest
    → work s.cells ((front ++ rest ∷ []) ++ begun i m ∷ []) < work s.cells (front ++ v ∷ [])
less_into s front v i m rest linked ordered into =
    let cells : List (PlainCell Rings) = s.cells in
    let left : Visit → ℕ = λ u. 1 + references_left cells u in
    let count : (o : Option (PlainCell Rings)) (j : ℕ) → ℕ =
    λ o j. option_map_or (λ (c : PlainCell Rings). length c.references - j) o 0 in
    let same : references_left cells rest ≡ references_left cells v =
    ap (λ k. count (slice_get cells k) rest.reference) into.cell_is
    ∙ ap (count (slice_get cells v.cell)) into.reference_is in
    let all : references_left cells (begun i m) ≡ length into.next.references - 0 = ap (λ o. count o 0) into.there in
    omega (
      arith,
      same,
      all,
      weight_into toil cells v i m rest into,
      weight_begun toil cells s.order i m into.next linked ordered into.there,
      sum_by_push (visit_weight toil cells) front v,
      sum_by_push (visit_weight toil cells) front rest,
      sum_by_push (visit_weight toil cells) (front ++ rest ∷ []) (begun i m),
      sum_by_push left front v,
      sum_by_push left front rest,
      sum_by_push left (front ++ rest ∷ []) (begun i m),
    )

-- a pick that is skipped
pub less_missed : (s : Settled) (front : List Visit) (v : Visit) (i : ℕ) (m : Map) (rest : Visit) → AreLinked s.cells
    → IsOrder s.cells s.order → IsInto s.cells v i m rest
    → work s.cells (front ++ rest ∷ []) < work s.cells (front ++ v ∷ [])
less_missed s front v i m rest linked ordered into =
    let more = less_into s front v i m rest linked ordered into in
    let less = less_done s.cells (front ++ rest ∷ []) (begun i m) in
    omega (arith, more, less)

-- a run of picks that is skipped
runs_less : (s : Settled) (known : List (Option Bounds)) (window : Window) (front : List Visit) (u : Visit)
    (place n : ℕ) → AreLinked s.cells → IsOrder s.cells s.order
    → ((k : ℕ) → place ≤ k → k < place + n → IsMissedAt s.cells known window u k)
    → work s.cells (front ++ at_place u (place + n) ∷ []) ≤ work s.cells (front ++ at_place u place ∷ [])
runs_less s known window front u place zero linked ordered missed =
    let none : place ≡ place + 0 = omega arith in
    subst (λ k. work s.cells (front ++ at_place u k ∷ []) ≤ work s.cells (front ++ at_place u place ∷ [])) none
    (omega arith)
runs_less s known window front u place (suc n) linked ordered missed =
    let before = runs_less s known window front u place n linked ordered (λ k l b. missed k l (omega (arith, b))) in
    let at = missed (place + n) (omega arith) (omega arith) in
    let less =
    less_missed s front (at_place u (place + n)) at.index at.map (at_place u (place + n + 1)) linked ordered at.into in
    let one : place + n + 1 ≡ place + suc n = omega arith in
    subst (λ k. work s.cells (front ++ at_place u k ∷ []) ≤ work s.cells (front ++ at_place u place ∷ [])) one
    (omega (arith, before, less))

pub less_passed : (s : Settled) (known : List (Option Bounds)) (window : Window) (front : List Visit) (v u : Visit)
    → AreLinked s.cells → IsOrder s.cells s.order → IsPassedBy s.cells known window v u
    → work s.cells (front ++ u ∷ []) ≤ work s.cells (front ++ v ∷ [])
less_passed s known window front v u linked ordered passed =
    let cells : List (PlainCell Rings) = s.cells in
    let start : Visit = at_place u v.place in
    let weight : Visit → ℕ = visit_weight toil cells in
    let left : Visit → ℕ = λ x. 1 + references_left cells x in
    let same : weight v ≡ weight start =
    ap (sum_by (pick_weight toil cells)) (pending_alike cells start v passed.cell_is passed.reference_is refl) in
    let alike : left v ≡ left start = ap (λ n. 1 + n) (left_alike cells start v passed.cell_is passed.reference_is) in
    let ends : v.place + (u.place - v.place) ≡ u.place = omega (arith, passed.on) in
    let run : work cells (front ++ u ∷ []) ≤ work cells (front ++ start ∷ []) =
    subst (λ k. work cells (front ++ at_place u k ∷ []) ≤ work cells (front ++ start ∷ [])) ends
    (runs_less s known window front u v.place (u.place - v.place) linked ordered
    (λ k l b. passed.missed k l (omega (arith, b, ends)))) in
    omega (
      arith,
      run,
      same,
      alike,
      sum_by_push weight front v,
      sum_by_push weight front start,
      sum_by_push left front v,
      sum_by_push left front start,
    )
