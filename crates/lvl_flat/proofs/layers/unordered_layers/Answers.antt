use Rattle.std.proofs.Common.{List, All, Contains, take, ap, subst}
use Rattle.std.proofs.lemmas.List.{take_all}
use Rattle.std.proofs.lemmas.List.Elements.{All-more}
use Rattle.lvl_names.specs.declared.layer.Layer.{Layer}
use Rattle.lvl_cells.specs.Cells.{PlainCell, Rings}
use Rattle.lvl_flat.proofs.Listing.{AreListed, still_listed}
use Rattle.lvl_flat.proofs.layers.unordered_layers.Goals as goal

pub loop-cell-preserved : goal.loop-cell-preserved
loop-cell-preserved c =
    let cells : List (PlainCell Rings) = c.args.cells.now in
    let now : List Layer = c.push_layers.new.layers.items in
    let cell : PlainCell Rings = c.cell-item.result in
    let here : AreListed now cell =
    subst (All (λ h. Contains now h.layer)) (ap (λ (d : PlainCell Rings). d.shapes) c.cell.view_is)
    c.in_ok-push_layers.ensures.added in
    All-more (AreListed now) cells c.loop-cell.cell-index cell c.loop-cell-test.true
    (still_listed c.loop-cell.layers.items now (take c.loop-cell.cell-index cells) c.in_ok-push_layers.ensures.kept
    c.loop-cell.invariant) (subst (AreListed now) c.cell-item.is here)

pub returns : goal.returns
returns c =
    subst (All (AreListed c.loop-cell.layers.items))
    (take_all c.loop-cell.cell-index c.args.cells.now c.loop-cell-test.false) c.loop-cell.invariant
