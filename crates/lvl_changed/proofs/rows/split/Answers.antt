use Rattle.std.proofs.lemmas.Result.{IfOk-weaker}
use Rattle.lvl_changed.specs.declared.arrays.Array.{Array}
use Rattle.lvl_changed.specs.declared.lattices.Rows.{Rows}
use Rattle.lvl_changed.proofs.Finding.{some_weaker}
use Rattle.lvl_changed.proofs.Rowing.{rows_cover}
use Rattle.lvl_changed.proofs.rows.split.Goals as goal

pub returns : goal.returns
returns c =
    let a : Array = c.args.array.now in
    let rows : Rows = c.in-Some.rows in
    IfOk-weaker c.all_rows.result _ _
    (λ found h.
    some_weaker found _ _
    (λ all both cells l s.
    let cover = rows_cover cells a rows c.in-Some.ensures l s in
    let here = both cells l s in (λ x. cover.1 (here.0 x), λ x. here.1 (cover.0 x))) h)
    c.all_rows.ensures
