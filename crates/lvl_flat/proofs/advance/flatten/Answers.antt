use Rattle.std.proofs.Common.{inr, map, subst}
use Rattle.std.proofs.lemmas.Result.{IfOk-weaker}
use Rattle.lvl_flat.specs.inside.Walking.{AllListed}
use Rattle.lvl_flat.proofs.Drawing.{layer_of}
use Rattle.lvl_flat.proofs.advance.flatten.Goals as goal

pub draw_all-requires-clause-boxes : goal.draw_all-requires-clause-boxes
draw_all-requires-clause-boxes c = c.in_ok-boxes.ensures c.args.checked.now.cells

pub draw_all-requires-clause-fits : goal.draw_all-requires-clause-fits
draw_all-requires-clause-fits c =
    inr (subst (AllListed (map layer_of c.in_ok-sheets.sheets.items)) c.cells.ensures.value
    c.in_ok-sheets.ensures.layers)

pub returns-clause-ok : goal.returns-clause-ok
returns-clause-ok c =
    let listed : AllListed (map layer_of c.in_ok-sheets.sheets.items) c.args.checked.now.cells =
    subst (AllListed (map layer_of c.in_ok-sheets.sheets.items)) c.cells.ensures.value
    c.in_ok-sheets.ensures.layers in
    IfOk-weaker c.draw_all.result _ _ (λ flat flattened. flattened listed) c.draw_all.ensures.ok
