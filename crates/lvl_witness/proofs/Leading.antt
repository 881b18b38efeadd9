-- Steps that lead from the top to a cell are a chain.
use Rattle.std.proofs.Common.{◌≡◌, ◌<◌, ℕ, zero, suc, List, slice_get, Some, IsSomeAnd, Any, subst, arith}
use Rattle.lvl_grid.specs.declared.map.Map.{Map}
use Rattle.lvl_grid.specs.declared.point.Point.{Point}
use Rattle.lvl_grid.proofs.Anyone.{some_contained}
use Rattle.lvl_names.proofs.Elements.{contains_at}
use Rattle.lvl_cells.specs.Cells.{PlainCell, PlainReference, Rings, map_at, cell_named}
use Rattle.lvl_cells.specs.Chains.{Chain, IsComposed}
use Rattle.lvl_flat.proofs.Covering.{some_is}
use Rattle.lvl_witness.specs.declared.witness.Step.{Step}
use Rattle.lvl_witness.specs.Witnesses.{LeadsOn, Leads}

-- a chain, and one more reference at one of its shifts
pub chain_on : (cells : List (PlainCell Rings)) (top : PlainCell Rings) (n j k : ℕ) (w m : Map) (c d : PlainCell Rings)
    (r : PlainReference) (e : Point) → Chain cells top n w c → slice_get c.references j ≡ Some r
    → slice_get r.shifts k ≡ Some e → cell_named cells r.cell ≡ Some d → IsComposed w (map_at r e) m
    → Chain cells top (suc n) m d
chain_on cells top n j k w m c d r e chain at shift named whole = (
  w,
  c,
  chain,
  some_contained (λ x. (cell_named cells x.cell ≡ Some d) × Any (λ y. IsComposed w (map_at x y) m) x.shifts)
      c.references r (contains_at c.references j r at) (
        named,
        some_contained (λ y. IsComposed w (map_at r y) m) r.shifts e (contains_at r.shifts k e shift) whole,
      ),
)

pub leads_chain : (cells : List (PlainCell Rings)) (top : PlainCell Rings) (steps : List Step) (n : ℕ) (m : Map)
    (d : PlainCell Rings) → Leads cells top steps n m d → Chain cells top n m d
leads_chain cells top steps zero m d leads = leads
leads_chain cells top steps (suc n) m d leads =
    let w : Map = leads.0 in
    let c : PlainCell Rings = leads.1 in
    let found = some_is (LeadsOn cells w c m d) (slice_get steps n) leads.3 in
    let on : LeadsOn cells w c m d found.0 = found.2 in
    let whole : IsComposed w (map_at on.reference on.shift) m =
    subst (λ (u : Map). IsComposed w u m) on.map_is on.composed in
    chain_on cells top n found.0.reference found.0.place w m c d on.reference on.shift
    (leads_chain cells top steps n w c leads.2) on.reference_is on.shift_is on.named whole

-- only the first n steps matter
pub leads_alike : (cells : List (PlainCell Rings)) (top : PlainCell Rings) (old new : List Step) (n : ℕ) (m : Map)
    (d : PlainCell Rings) → ((k : ℕ) → k < n → slice_get old k ≡ slice_get new k) → Leads cells top old n m d
    → Leads cells top new n m d
leads_alike cells top old new zero m d same leads = leads
leads_alike cells top old new (suc n) m d same leads = (
  leads.0,
  leads.1,
  leads_alike cells top old new n leads.0 leads.1 (λ k below. same k (omega (arith, below))) leads.2,
  subst (λ o. IsSomeAnd o (LeadsOn cells leads.0 leads.1 m d)) (same n (omega arith)) leads.3,
)
