-- The cells that the steps of a chain place.
use Rattle.std.proofs.Common.{◌≡◌, ◌∙◌, ◌<◌, ◌⊎◌, ⊎_elim, inl, inr, ℕ, zero, suc, List, length, slice_get}
use Rattle.std.proofs.Common.{get_or, Some, All, refl, sym, subst, ap, arith}
use Rattle.std.proofs.lemmas.Option.{slice_get-get_or, slice_get_within}
use Rattle.lvl_grid.specs.declared.map.Map.{Map}
use Rattle.lvl_cells.specs.Cells.{PlainCell, Rings}
use Rattle.lvl_flat.proofs.Covering.{some_is}
use Rattle.lvl_witness.specs.Witnesses.{Leads, LeadsOn}
use Rattle.lvl_witness.specs.declared.witness.Step.{Step}
use Rattle.lvl_why.specs.inside.Steps.{IsWithin}

below_or_at : (i n : ℕ) → i < suc n → (i < n) ⊎ (i ≡ n)
below_or_at zero zero h = inr refl
below_or_at zero (suc n) h = inl (omega arith)
below_or_at (suc i) zero h = absurd (omega (arith, h))
below_or_at (suc i) (suc n) h =
    ⊎_elim (λ low. inl (omega (arith, low))) (λ e. inr (ap suc e)) (below_or_at i n (omega (arith, h)))

-- each step before the end of the chain places one of the cells
step_within : (cells : List (PlainCell Rings)) (top : PlainCell Rings) (steps : List Step) (n : ℕ) (m : Map)
    (d : PlainCell Rings) → Leads cells top steps n m d → (i : ℕ) (step : Step) → i < n
    → slice_get steps i ≡ Some step → step.cell < length cells
step_within cells top steps zero m d leads i step low at = absurd (omega (arith, low))
step_within cells top steps (suc n) m d leads i step low at =
    let w : Map = leads.0 in
    let c : PlainCell Rings = leads.1 in
    let found = some_is (LeadsOn cells w c m d) (slice_get steps n) leads.3 in
    ⊎_elim (λ before. step_within cells top steps n w c leads.2 i step before at)
    (λ e.
    let last : Some found.0 ≡ Some step = sym found.1 ∙ ap (slice_get steps) (sym e) ∙ at in
    let same : found.0 ≡ step = cc in
    subst (λ (s : Step). s.cell < length cells) same (slice_get_within cells found.0.cell d found.2.cell_is))
    (below_or_at i n low)

pub steps_within : (cells : List (PlainCell Rings)) (top : PlainCell Rings) (steps : List Step) (m : Map)
    (d : PlainCell Rings) → Leads cells top steps (length steps) m d → All (IsWithin cells) steps
steps_within cells top steps m d leads =
    λ k e within. step_within cells top steps (length steps) m d leads k (get_or steps k e) within
    (slice_get-get_or steps k e within)
