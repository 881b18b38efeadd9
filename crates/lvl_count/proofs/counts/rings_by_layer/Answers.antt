use Rattle.std.proofs.Common.{◌≡◌, ℕ, List, Some, None, IfSome, map, filter, All, Contains, ap, ◌∙◌, sym}
use Rattle.std.proofs.Common.{subst, rules, refl}
use Rattle.std.proofs.Common.{length, drop}
use Rattle.std.proofs.lemmas.List.{take_at}
use Rattle.std.proofs.Math.ListN.{length-map}
use Rattle.std.specs.List.{slice_get}
use Rattle.std.proofs.lemmas.Fn.{filter_same}
use Rattle.lvl_names.specs.declared.layer.Layer.{Layer}
use Rattle.lvl_cells.specs.Cells.{each_ring}
use Rattle.lvl_cells.specs.Checks.{Settled}
use Rattle.lvl_count.specs.Counted.{AreCounted}
use Rattle.lvl_count.specs.declared.counts.LayerRings.{LayerRings}
use Rattle.lvl_count.specs.inside.Counts.{AreListed, more, placed_on}
use Rattle.lvl_count.proofs.Listing.{still_listed}
use Rattle.lvl_count.proofs.Totals.{is_filled, all_counted}
use Rattle.lvl_count.proofs.counts.rings_by_layer.Goals as goal

-- each Layer of a cell that is placed has a count
listed : (s : Settled) (times : List ℕ) (layers : List Layer) (counts now : List LayerRings) → now ≡ counts
    → All (Contains (map (λ c. c.layer) counts)) layers → All (AreListed s.cells times layers) s.order
    → All (AreListed s.cells times (map (λ c. c.layer) now)) s.order
listed s times layers counts now counts_are there all =
    let of : LayerRings → Layer = λ c. c.layer in
    subst (λ cs. All (AreListed s.cells times (map of cs)) s.order) (sym counts_are)
    (still_listed s.cells times layers (map of counts) s.order there all)

pub add_cells-requires-clause-there : goal.add_cells-requires-clause-there
add_cells-requires-clause-there c =
    listed c.args.checked.now c.times-times.result.now c.in_ok-layers.layers.items c.in_ok-counts.counts.items
    c.deref_mut.result.now c.deref_mut.ensures.value c.in_ok-counts.ensures.layers c.in_ok-layers.ensures

pub returns : goal.returns
returns c =
    let s : Settled = c.args.checked.now in
    let times : List ℕ = c.times-times.result.now in
    let old : List LayerRings = c.in_ok-counts.counts.items in
    let added : List LayerRings = map (more (λ l. placed_on l s.cells times s.order)) old in
    let kept = filter_same _ is_filled _ (λ m b q h. search rules) _ _ c.retain.ensures.filtered in
    let new : c.add_cells.new.counts ≡ added =
    c.add_cells.ensures
    ∙ ap (map (more (λ l. placed_on l s.cells times s.order))) c.deref_mut.ensures.value in
    let long : length c.add_cells.new.counts ≡ c.in_ok-counts.counts.len =
    ap length c.add_cells.ensures ∙ (length-map c.deref_mut.result.now _ ∙ c.deref_mut.ensures.len) in
    let all : c.retain.new.self.items ≡ filter is_filled added =
    kept
    ∙ ap (filter is_filled)
    (take_at c.add_cells.new.counts (drop (length c.add_cells.new.counts) old) c.in_ok-counts.counts.len long ∙ new) in
    let there =
    listed s times c.in_ok-layers.layers.items old old refl c.in_ok-counts.ensures.layers c.in_ok-layers.ensures in
    elim (slice_get s.cells s.top)
    as (λ o. slice_get s.cells s.top ≡ o
    → IfSome o (λ top. AreCounted each_ring s.cells top c.retain.new.self.items)) [
      | None ↦ λ e. tt
      | Some top ↦ λ e.
          subst (AreCounted each_ring s.cells top) (sym all)
          (all_counted s times old top c.times-times.ensures e c.in_ok-counts.ensures.sorted there
          c.in_ok-counts.ensures.zero)
    ] refl
