use Rattle.std.proofs.Common.{◌≡◌, ◌<◌, ◌-◌, ℕ, List, Option, Some, None, length, get_or, slice_get, sym, ap, ◌∙◌}
use Rattle.std.proofs.Common.{subst, arith}
use Rattle.std.proofs.lemmas.List.FromFn.{length-map-range_with_len}
use Rattle.std.proofs.lemmas.Option.{slice_get-get_or}
use Rattle.lvl_cells.specs.Cells.{PlainCell, Rings}
use Rattle.lvl_cells.specs.Soundness.{IsOrder}
use Rattle.lvl_cells.proofs.Summing.{place_within}
use Rattle.lvl_changed.specs.declared.layers.Layers.{Layers}
use Rattle.lvl_changed.specs.inside.Drawing.{AreDrawnOn, IsDrawnOn}
use Rattle.lvl_changed.proofs.Drawn.{drawn_more, none_drawn, undrawn}
use Rattle.lvl_changed.proofs.drawing.drawn_by_cells.Goals as goal

pub loop-i-init : goal.loop-i-init
loop-i-init c =
    let cells : List (PlainCell Rings) = c.args.checked.now.cells in
    record {
      long =
          omega (
            arith,
            c.in_ok-drawn.drawn.ok.0,
            ap length c.in_ok-drawn.ensures,
            length-map-range_with_len {X = Option Layers} undrawn 0 (length c.cells.result.now),
            ap length c.cells.ensures.value,
          );
      known =
          subst (λ known. AreDrawnOn cells known) (sym c.in_ok-drawn.ensures)
          (none_drawn cells (length c.cells.result.now));
    }

pub loop-i-preserved : goal.loop-i-preserved
loop-i-preserved c =
    let cells : List (PlainCell Rings) = c.args.checked.now.cells in
    let order : List ℕ = c.order.result.now in
    let known : List (Option Layers) = c.loop-i.drawn.items in
    let i : ℕ = c.loop-i.i - 1 in
    let k : ℕ = get_or order i 0 in
    let f : Layers = c.in_ok-layers.layers in
    let inside : i < length order =
    omega (
      arith,
      c.loop-i-test.true,
      c.loop-i.auto.i,
      ap length c.order.ensures.value,
      ap length c.order-i.ensures.value,
    ) in
    let hi : slice_get order i ≡ Some k = slice_get-get_or order i 0 inside in
    let ordered : IsOrder cells order =
    subst (IsOrder cells) (sym c.order.ensures.value) c.order.ensures.sorted in
    let low : k < length cells = place_within cells order i k ordered hi in
    let there : slice_get known k ≡ Some (get_or known k None) =
    slice_get-get_or known k None (omega (arith, low, c.loop-i.invariant.long, c.loop-i.drawn.ok.0)) in
    let mine : AreDrawnOn cells c.deref.result.now =
    subst (λ xs. AreDrawnOn cells xs) (sym c.deref.ensures.value) c.loop-i.invariant.known in
    let found : IsDrawnOn cells k f = c.in_ok-layers.ensures mine in
    record {
      long = c.keep_drawn.ensures.long ∙ c.loop-i.invariant.long;
      known =
          subst (λ xs. AreDrawnOn cells xs) (sym c.keep_drawn.ensures.kept)
          (drawn_more cells known k f (get_or known k None) c.loop-i.invariant.known there found);
    }
