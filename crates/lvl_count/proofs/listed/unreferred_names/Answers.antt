use Rattle.std.proofs.Common.{◌≡◌, ◌++◌, ◌∷◌, [], Some, true, false, slice_get, arith, sym, ap, ◌∙◌}
use Rattle.std.proofs.lemmas.Option.{slice_get-get_or}
use Rattle.lvl_cells.specs.Cells.{PlainCell, Rings}
use Rattle.lvl_count.proofs.Marked.{top_added, top_passed}
use Rattle.lvl_count.proofs.listed.unreferred_names.Goals.{then-not-referred-k+in_ok-clone+in_ok-push}
use Rattle.lvl_count.proofs.listed.unreferred_names.Goals.{else-not-referred-k}
use Rattle.lvl_count.proofs.listed.unreferred_names.Goals as goal

pub loop-k-preserved : goal.loop-k-preserved
loop-k-preserved c =
    let cells = c.args.cells.now in
    let marks = c.args.referred.now in
    let k = c.loop-k.k in
    let cell : PlainCell Rings = c.index-cells-k.result in
    let at : slice_get cells k ≡ Some cell =
    slice_get-get_or cells k cell c.loop-k-test.true ∙ ap Some (sym c.index-cells-k.is) in
    elim c.if-not-referred-k.branch [
      | then-not-referred-k+in_ok-clone+in_ok-push w ↦
          let unset : slice_get marks k ≡ Some false =
          slice_get-get_or marks k false (omega (arith, c.loop-k-test.true, c.requires.long))
          ∙ ap Some w.if-not-referred-k.true in
          ap (λ ns. ns.items) w.names-is
          ∙ (w.in_ok-push.ensures.items
          ∙ (ap (λ n. c.loop-k.names.items ++ n ∷ [])
          (w.in_ok-clone.ensures.cases ∙ ap (λ (x : PlainCell Rings). x.name) c.cell.view_is)
          ∙ top_added cells marks k cell c.loop-k.names.items c.requires at unset c.loop-k.invariant))
      | else-not-referred-k w ↦
          let set : slice_get marks k ≡ Some true =
          slice_get-get_or marks k false (omega (arith, c.loop-k-test.true, c.requires.long))
          ∙ ap Some w.if-not-referred-k.false in
          ap (λ ns. ns.items) w.names-is
          ∙ top_passed cells marks k cell c.loop-k.names.items c.requires at set c.loop-k.invariant
    ]
