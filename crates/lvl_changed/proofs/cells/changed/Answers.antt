use Rattle.std.proofs.Common.{◌≡◌, ◌<◌, ◌-◌, ℕ, List, Option, Some, None, length, get_or, slice_get, sym, ap, ◌∙◌}
use Rattle.std.proofs.Common.{◌↔◌, IsTrue, subst, arith}
use Rattle.std.proofs.lemmas.List.FromFn.{length-map-range_with_len}
use Rattle.std.proofs.lemmas.Option.{slice_get_within, slice_get-get_or}
use Rattle.lvl_grid.specs.declared.point.Square.{Square}
use Rattle.lvl_names.specs.declared.layer.Layer.{Layer}
use Rattle.lvl_cells.specs.Cells.{PlainCell, Rings}
use Rattle.lvl_cells.specs.Checks.{Settled}
use Rattle.lvl_cells.specs.Soundness.{IsOrder}
use Rattle.lvl_cells.proofs.Summing.{place_within}
use Rattle.lvl_flat.specs.Flattened.{CoversAt}
use Rattle.lvl_view.specs.declared.map.LayerPair.{LayerPair}
use Rattle.lvl_view.specs.Moved.{IsMoved}
use Rattle.lvl_changed.specs.Changed.{DrawSameBut}
use Rattle.lvl_changed.specs.declared.found.Found.{Found}
use Rattle.lvl_changed.specs.inside.Finding.{AreFound, IsFound, PartnerCovers}
use Rattle.lvl_changed.proofs.Finding.{found_more, none_found, settled_found, some_weaker, unknown}
use Rattle.lvl_changed.proofs.cells.changed.Goals as goal

pub loop-i-init : goal.loop-i-init
loop-i-init c =
    let ours : List (PlainCell Rings) = c.args.first.now.cells in
    let theirs : List (PlainCell Rings) = c.args.second.now.cells in
    let pairs : List LayerPair = c.args.view.now.pairs in
    let count : ℕ = length c.cells.result.now in
    record {
      long =
          omega (
            arith,
            c.in_ok-known.known.ok.0,
            ap length c.in_ok-known.ensures,
            length-map-range_with_len {X = Option Found} unknown 0 count,
            ap length c.cells.ensures.value,
            ap (λ (z : Settled). length z.cells) c.checked-ours.ensures.library,
          );
      known =
          subst (λ known. AreFound pairs ours theirs known) (sym c.in_ok-known.ensures)
          (none_found pairs ours theirs count);
    }

pub loop-i-preserved : goal.loop-i-preserved
loop-i-preserved c =
    let ours : List (PlainCell Rings) = c.args.first.now.cells in
    let theirs : List (PlainCell Rings) = c.args.second.now.cells in
    let pairs : List LayerPair = c.args.view.now.pairs in
    let cells : List (PlainCell Rings) = c.checked-ours.result.now.cells in
    let order : List ℕ = c.order.result.now in
    let known : List (Option Found) = c.loop-i.known.items in
    let i : ℕ = c.loop-i.i - 1 in
    let k : ℕ = get_or order i 0 in
    let f : Found = c.in_ok-found.found in
    let inside : i < length order =
    omega (
      arith,
      c.loop-i-test.true,
      c.loop-i.auto.i,
      ap length c.order.ensures.value,
      ap length c.order-i.ensures.value,
    ) in
    let hi : slice_get order i ≡ Some k = slice_get-get_or order i 0 inside in
    let sorted : IsOrder cells order = subst (IsOrder cells) (sym c.order.ensures.value) c.order.ensures.sorted in
    let ordered : IsOrder ours order =
    subst (λ (z : Settled). IsOrder z.cells order) c.checked-ours.ensures.library sorted in
    let low : k < length ours = place_within ours order i k ordered hi in
    let there : slice_get known k ≡ Some (get_or known k None) =
    slice_get-get_or known k None (omega (arith, low, c.loop-i.invariant.long, c.loop-i.known.ok.0)) in
    let mine : AreFound pairs ours theirs c.deref-in-loop-i-3.result.now =
    subst (λ xs. AreFound pairs ours theirs xs) (sym c.deref-in-loop-i-3.ensures.value) c.loop-i.invariant.known in
    let found : IsFound pairs ours theirs k f = c.in_ok-found.ensures.found mine in
    let g : Found = c.settled.result in
    let last : IsFound pairs ours theirs k g =
    settled_found pairs ours theirs k f g c.in_ok-is_same.is_same found
    (subst
    (λ ps. IsTrue c.in_ok-is_same.is_same
    → IsFound ps ours theirs k f → (layer : Layer) (s : Square)
    → CoversAt ours k layer s ↔ PartnerCovers ps theirs f.partner layer s)
    c.in_ok-everywhere.ensures.pairs c.in_ok-is_same.ensures)
    c.settled.ensures.partner c.settled.ensures.kept in
    record {
      long = c.keep.ensures.long ∙ c.loop-i.invariant.long;
      known =
          subst (λ xs. AreFound pairs ours theirs xs) (sym c.keep.ensures.kept)
          (found_more pairs ours theirs known k g (get_or known k None) c.loop-i.invariant.known there last);
    }

pub changes_in-requires : goal.changes_in-requires
changes_in-requires c =
    let settled = c.top.ensures.checked.settled in
    let whole : Settled = c.checked-ours.result.now in
    omega (
      arith,
      c.top.ensures.value,
      slice_get_within whole.cells whole.top settled.cell settled.is,
      ap (λ (z : Settled). length z.cells) c.checked-ours.ensures.library,
      c.loop-i.invariant.long,
    )

pub returns : goal.returns
returns c =
    let ours : List (PlainCell Rings) = c.args.first.now.cells in
    let theirs : List (PlainCell Rings) = c.args.second.now.cells in
    let pairs : List LayerPair = c.args.view.now.pairs in
    let our_top : c.top.result ≡ c.args.first.now.top =
    c.top.ensures.value ∙ ap (λ (z : Settled). z.top) c.checked-ours.ensures.library in
    let their_top : c.top-2.result ≡ c.args.second.now.top =
    c.top-2.ensures.value ∙ ap (λ (z : Settled). z.top) c.checked-theirs.ensures.library in
    some_weaker c.changes_in.result _ _
    (λ changes same.
    subst
    (λ i. DrawSameBut changes (CoversAt ours i)
    (IsMoved pairs (CoversAt theirs c.args.second.now.top))) our_top
    (subst
    (λ j. DrawSameBut changes (CoversAt ours c.top.result) (IsMoved pairs (CoversAt theirs j)))
    their_top (same pairs ours theirs c.loop-i.invariant.known))) c.changes_in.ensures
