use Rattle.std.proofs.Common.{◌≡◌, ℕ, List, Some, None, All, length, get_or, slice_get, refl, sym, ap, subst, arith}
use Rattle.std.specs.Prelude.{IfSome}
use Rattle.std.proofs.lemmas.Option.{slice_get_read}
use Rattle.lvl_cells.specs.Cells.{PlainCell, Rings}
use Rattle.lvl_flat.specs.declared.bounds.Bounds.{Bounds}
use Rattle.lvl_flat.specs.Boxes.{HoldsPoint, HoldsChains, AreBoxes}
use Rattle.lvl_flat.specs.inside.Bounds.{Widens, HoldsOwn, HoldsPicks}
use Rattle.lvl_flat.proofs.Holding.{own_wider, chains_from}
use Rattle.lvl_flat.proofs.boxes.bounds_of_cell.Goals as goal
use Rattle.lvl_grid.proofs.Paths.{origin}

pub returns-clause-held : goal.returns-clause-held
returns-clause-held c =
    let cells : List (PlainCell Rings) = c.args.checked.now.cells in
    let k : ℕ = c.args.cell in
    let cell : PlainCell Rings = c.index-cells-cell.result in
    let own : Bounds = c.in_ok-held.held in
    let read : slice_get c.cells.result.now k ≡ Some cell =
    slice_get_read c.cells.result.now (length c.cells.result.now) k cell refl
    (omega (arith, c.requires, ap length c.cells.ensures.value)) c.index-cells-cell.is in
    let there : slice_get cells k ≡ Some cell =
    subst (λ (cs : List (PlainCell Rings)). slice_get cs k ≡ Some cell) c.cells.ensures.value read in
    let shapes : All (HoldsOwn own) cell.shapes =
    subst (All (HoldsOwn own)) (ap (λ (x : PlainCell Rings). x.shapes) c.place.view_is) c.in_ok-held.ensures.held in
    let start : HoldsPoint own origin = c.in_ok-held.ensures.wider.holds origin c.around.ensures in
    let from : (b : Bounds) → Widens own b
    → IfSome (slice_get cells k) (λ (x : PlainCell Rings). HoldsPicks cells b x.references)
    → IfSome (slice_get cells k) (HoldsChains cells b) =
    λ b wider picks.
    let below : HoldsPicks cells b cell.references =
    subst (λ o. IfSome o (λ (x : PlainCell Rings). HoldsPicks cells b x.references)) there picks in
    subst (λ o. IfSome o (HoldsChains cells b)) (sym there)
    (chains_from cells b cell (wider.holds origin start)
    (λ i h li. own_wider own b (get_or cell.shapes i h) wider (shapes i h li)) below) in
    elim c.hold_references.result
    as (λ o. IfSome o (Widens own)
    → IfSome o (λ held. AreBoxes cells c.args.known.now
    → IfSome (slice_get cells k) (λ (x : PlainCell Rings). HoldsPicks cells held x.references))
    → IfSome o (λ held. AreBoxes cells c.args.known.now → IfSome (slice_get cells k) (HoldsChains cells held))) [
      | Some b ↦ λ wider picks known. from b wider (picks known)
      | None ↦ λ wider picks. tt
    ] c.hold_references.ensures.wider c.hold_references.ensures.held
