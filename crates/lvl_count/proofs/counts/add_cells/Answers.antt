use Rattle.std.proofs.Common.{◌≡◌, ◌<◌, ◌≤◌, ◌+◌, ◌*◌, ◌^◌, ℕ, List, Some, length, get_or, map, take, All, Contains, refl}
use Rattle.std.proofs.Common.{sym, ap, ◌∙◌}
use Rattle.std.proofs.Common.{subst, arith}
use Rattle.std.specs.List.{slice_get}
use Rattle.std.proofs.lemmas.List.{take_all}
use Rattle.lvl_names.specs.declared.layer.Layer.{Layer}
use Rattle.lvl_cells.specs.Cells.{PlainCell, PlainShape, Rings}
use Rattle.lvl_cells.specs.Checks.{Settled}
use Rattle.lvl_count.specs.inside.Counts.{AreSorted, more, rings_on, placed_on}
use Rattle.lvl_count.proofs.Growing.{layer_of, more_none, more_more, layers_kept, sorted_kept}
use Rattle.lvl_cells.proofs.Passing.{cell_read}
use Rattle.lvl_count.proofs.Totals.{cell_more, cell_skipped, cell_few}
use Rattle.lvl_count.proofs.counts.add_cells.Goals.{then-here-gt0, else-here-gt0}
use Rattle.lvl_count.proofs.counts.add_cells.Goals as goal

pub loop-index-init : goal.loop-index-init
loop-index-init c =
    more_none (λ l. placed_on l c.args.checked.now.cells c.args.times.now (take 0 c.order-index-items.result.now))
    c.args.counts.now (λ l. omega arith)

pub add_shapes-requires-clause-sorted : goal.add_shapes-requires-clause-sorted
add_shapes-requires-clause-sorted c =
    subst AreSorted (sym c.loop-index.invariant)
    (sorted_kept
    (λ l. placed_on l c.args.checked.now.cells c.args.times.now
    (take c.loop-index.index-index c.order-index-items.result.now)) c.args.counts.now c.requires.sorted)

pub add_shapes-requires-clause-there : goal.add_shapes-requires-clause-there
add_shapes-requires-clause-there c =
    let s : Settled = c.args.checked.now in
    let places : List ℕ = c.order-index-items.result.now in
    let i : ℕ = c.loop-index.index-index in
    let ordered : places ≡ s.order = c.order-index-items.ensures.value in
    let low : i < length s.order = omega (arith, c.loop-index-test.true, ap length ordered) in
    let at =
    cell_read s places c.cells.result.now i c.index-cells-index.result c.cells.ensures.checked.settled.sorted ordered c.cells.ensures.value low c.index-cells-index.is in
    let same : map layer_of c.loop-index.counts ≡ map layer_of c.args.counts.now =
    ap (map layer_of) c.loop-index.invariant
    ∙ layers_kept (λ l. placed_on l s.cells c.args.times.now (take i places)) c.args.counts.now in
    let here : get_or s.order i 0 ≡ get_or places i 0 = ap (λ l. get_or l i 0) (sym ordered) in
    let listed : All (λ (h : PlainShape Rings). Contains (map layer_of c.args.counts.now) h.layer)
    c.index-cells-index.result.shapes =
    subst
    (λ k. 0 < get_or c.args.times.now k 0 → (d : PlainCell Rings) → slice_get s.cells k ≡ Some d
    → All (λ (h : PlainShape Rings). Contains (map layer_of c.args.counts.now) h.layer) d.shapes) here
    (c.requires.there i 0 low) c.if-here-gt0.true c.index-cells-index.result at.1 in
    subst (λ ls. All (λ (h : PlainShape Rings). Contains ls h.layer) c.cell.inside.shapes) (sym same)
    (subst (All (λ (h : PlainShape Rings). Contains (map layer_of c.args.counts.now) h.layer))
    (sym (ap (λ (d : PlainCell Rings). d.shapes) c.cell.view_is)) listed)

pub add_shapes-requires-clause-few : goal.add_shapes-requires-clause-few
add_shapes-requires-clause-few c =
    let s : Settled = c.args.checked.now in
    let places : List ℕ = c.order-index-items.result.now in
    let i : ℕ = c.loop-index.index-index in
    let times : List ℕ = c.args.times.now in
    let ordered : places ≡ s.order = c.order-index-items.ensures.value in
    let low : i < length s.order = omega (arith, c.loop-index-test.true, ap length ordered) in
    let at =
    cell_read s s.order c.cells.result.now i c.index-cells-index.result c.cells.ensures.checked.settled.sorted refl c.cells.ensures.value low
    (subst (λ l. c.index-cells-index.result ≡ get_or c.cells.result.now (get_or l i 0) c.index-cells-index.result)
    ordered c.index-cells-index.is) in
    let few =
    cell_few s times c.args.counts.now c.loop-index.counts i c.index-cells-index.result c.cells.ensures.checked
    c.requires.times low at.1 c.requires.zero
    (subst (λ l. c.loop-index.counts ≡ map (more (λ layer. placed_on layer s.cells times (take i l))) c.args.counts.now)
    ordered c.loop-index.invariant) in
    subst (λ l. All (λ n. n.rings + get_or times (get_or l i 0) 0 * rings_on n.layer c.cell.inside.shapes < 2 ^ 64)
    c.loop-index.counts) (sym ordered)
    (subst
    (λ hs. All (λ n. n.rings + get_or times (get_or s.order i 0) 0 * rings_on n.layer hs < 2 ^ 64)
    c.loop-index.counts) (sym (ap (λ (d : PlainCell Rings). d.shapes) c.cell.view_is)) few)

pub loop-index-preserved : goal.loop-index-preserved
loop-index-preserved c =
    let s : Settled = c.args.checked.now in
    let places : List ℕ = c.order-index-items.result.now in
    let i : ℕ = c.loop-index.index-index in
    let times : List ℕ = c.args.times.now in
    let k : ℕ = get_or places i 0 in
    let f : Layer → ℕ = λ l. placed_on l s.cells times (take i places) in
    let h : Layer → ℕ = λ l. placed_on l s.cells times (take (i + 1) places) in
    elim c.if-here-gt0.branch [
      | then-here-gt0 w ↦
          let low : i < length s.order =
          omega (arith, c.loop-index-test.true, ap length c.order-index-items.ensures.value) in
          let at =
          cell_read s places w.cells.result.now i w.index-cells-index.result w.cells.ensures.checked.settled.sorted
          c.order-index-items.ensures.value w.cells.ensures.value low w.index-cells-index.is in
          let g : Layer → ℕ = λ l. get_or times k 0 * rings_on l w.cell.inside.shapes in
          w.counts-is
          ∙ (w.add_shapes.ensures
          ∙ (ap (map (more g)) c.loop-index.invariant
          ∙ more_more f g h c.args.counts.now
          (λ l. cell_more l s.cells times places i w.index-cells-index.result c.loop-index-test.true at.1
          ∙ ap (λ (d : PlainCell Rings). f l + get_or times k 0 * rings_on l d.shapes) (sym w.cell.view_is))))
      | else-here-gt0 w ↦
          w.counts-is
          ∙ (c.loop-index.invariant
          ∙ (more_none (λ l. 0) (map (more f) c.args.counts.now) (λ l. refl)
          ∙ more_more f (λ l. 0) h c.args.counts.now
          (λ l. cell_skipped l s.cells times places i c.loop-index-test.true (omega (arith, w.if-here-gt0.false))
          ∙ omega arith)))
    ]

pub returns : goal.returns
returns c =
    let s : Settled = c.args.checked.now in
    c.loop-index.invariant
    ∙ ap (λ l. map (more (λ layer. placed_on layer s.cells c.args.times.now l)) c.args.counts.now)
    (take_all c.loop-index.index-index c.order-index-items.result.now c.loop-index-test.false
    ∙ c.order-index-items.ensures.value)
