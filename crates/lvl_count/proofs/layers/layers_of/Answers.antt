use Rattle.std.proofs.Common.{◌≡◌, ◌+◌, ℕ, List, All, Contains, Vec, Global, get_or, take, sym, ap, ◌∙◌, subst}
use Rattle.std.proofs.Common.{arith}
use Rattle.std.proofs.lemmas.List.{take_all}
use Rattle.std.proofs.lemmas.List.Elements.{All-more}
use Rattle.std.proofs.lemmas.Option.{get_or_from_slice_get}
use Rattle.lvl_names.specs.declared.layer.Layer.{Layer}
use Rattle.lvl_cells.specs.Cells.{PlainCell, Rings}
use Rattle.lvl_count.specs.inside.Counts.{AreListed}
use Rattle.lvl_count.proofs.Listing.{still_listed}
use Rattle.lvl_count.proofs.layers.layers_of.Goals.{then-times-index-gt0+in_ok-push_layers, else-times-index-gt0}
use Rattle.lvl_count.proofs.layers.layers_of.Goals as goal

pub loop-index-preserved : goal.loop-index-preserved
loop-index-preserved c =
    let cells : List (PlainCell Rings) = c.args.checked.now.cells in
    let times : List ℕ = c.args.times.now in
    let places : List ℕ = c.order-index-items.result.now in
    let i : ℕ = c.loop-index.index-index in
    let k : ℕ = get_or places i 0 in
    let so_far : Vec Layer Global → Type 0 = λ v. All (AreListed cells times v.items) (take (i + 1) places) in
    elim c.if-times-index-gt0.branch [
      | then-times-index-gt0+in_ok-push_layers w ↦
          let old : List Layer = c.loop-index.layers.items in
          let new : List Layer = w.push_layers.new.layers.items in
          let here : AreListed cells times new k = λ placed d there.
          let same : w.index-cells-index.result ≡ d =
          w.index-cells-index.is
          ∙ (ap (λ l. get_or l k w.index-cells-index.result) w.cells.ensures.value
          ∙ get_or_from_slice_get cells k d w.index-cells-index.result there) in
          subst (All (λ h. Contains new h.layer)) (ap (λ (b : PlainCell Rings). b.shapes) (w.cell.view_is ∙ same))
          w.in_ok-push_layers.ensures.added in
          subst so_far (sym w.layers-is)
          (All-more (AreListed cells times new) places i 0 c.loop-index-test.true
          (still_listed cells times old new (take i places) w.in_ok-push_layers.ensures.kept c.loop-index.invariant)
          here)
      | else-times-index-gt0 w ↦
          subst so_far (sym w.layers-is)
          (All-more (AreListed cells times c.loop-index.layers.items) places i 0 c.loop-index-test.true
          c.loop-index.invariant
          (λ placed d there. absurd (omega (arith, placed, w.if-times-index-gt0.false))))
    ]

pub returns : goal.returns
returns c =
    subst (All (AreListed c.args.checked.now.cells c.args.times.now c.loop-index.layers.items))
    (take_all c.loop-index.index-index c.order-index-items.result.now c.loop-index-test.false
    ∙ c.order-index-items.ensures.value) c.loop-index.invariant
