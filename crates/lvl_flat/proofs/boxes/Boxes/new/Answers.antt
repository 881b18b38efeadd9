use Rattle.std.proofs.Common.{◌≡◌, ◌<◌, ◌-◌, ℕ, List, Option, Some, None, length, get_or, slice_get, sym, ap}
use Rattle.std.proofs.Common.{subst, arith}
use Rattle.std.specs.Prelude.{IfSome}
use Rattle.std.proofs.lemmas.Option.{slice_get-get_or}
use Rattle.std.proofs.lemmas.Result.{IfOk-weaker}
use Rattle.lvl_cells.specs.Cells.{PlainCell, Rings}
use Rattle.lvl_cells.specs.Soundness.{IsOrder}
use Rattle.lvl_cells.proofs.Summing.{place_within}
use Rattle.lvl_flat.specs.declared.bounds.Bounds.{Bounds}
use Rattle.lvl_flat.specs.Boxes.{AreBoxes, HoldsChains, FitsBounds}
use Rattle.lvl_flat.proofs.Holding.{known_box}
use Rattle.lvl_flat.proofs.boxes.Boxes.new.Goals as goal

pub loop-i-preserved : goal.loop-i-preserved
loop-i-preserved c =
    let cells : List (PlainCell Rings) = c.args.checked.now.cells in
    let order : List ℕ = c.order.result.now in
    let known : List (Option Bounds) = c.loop-i.known.items in
    let i : ℕ = c.loop-i.i - 1 in
    let k : ℕ = get_or order i 0 in
    let inside : i < length order =
    omega (
      arith,
      c.loop-i-test.true,
      c.loop-i.auto.i,
      ap length c.order.ensures.value,
      ap length c.order-i.ensures.value,
    ) in
    let hi : slice_get order i ≡ Some k = slice_get-get_or order i 0 inside in
    let ordered : IsOrder cells order = subst (IsOrder cells) (sym c.order.ensures.value) c.order.ensures.sorted in
    let low : k < length cells = place_within cells order i k ordered hi in
    let there : slice_get known k ≡ Some (get_or known k None) =
    slice_get-get_or known k None (omega (arith, low, c.loop-i.invariant.long, c.loop-i.known.ok.0)) in
    let mine : AreBoxes cells c.deref.result.now =
    subst (AreBoxes cells) (sym c.deref.ensures.value) c.loop-i.invariant.known in
    record {
      long = c.loop-i.invariant.long;
      known =
          known_box cells known k (get_or known k None) c.bounds_of_cell.result c.loop-i.invariant.known there
          (λ b d e at. (
            subst (λ (o : Option Bounds). IfSome o FitsBounds) e c.bounds_of_cell.ensures.fits,
            subst (λ o. IfSome o (HoldsChains cells b)) at
                (subst
                (λ (o : Option Bounds). IfSome o
                (λ held. AreBoxes cells c.deref.result.now → IfSome (slice_get cells k) (HoldsChains cells held)))
                e c.bounds_of_cell.ensures.held mine),
          ));
    }

pub returns : goal.returns
returns c =
    let cells : List (PlainCell Rings) = c.args.checked.now.cells in
    IfOk-weaker c.of.result _ (AreBoxes cells) (λ b e. subst (AreBoxes cells) (sym e) c.loop-i.invariant.known)
    c.of.ensures
