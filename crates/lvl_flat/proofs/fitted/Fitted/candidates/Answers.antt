use Rattle.std.proofs.Common.{◌≡◌, Some, length, slice_get, sym, ap, subst, ◌∙◌}
use Rattle.std.specs.List.{range_with_len}
use Rattle.lvl_cells.specs.Cells.{PlainCell, Rings}
use Rattle.lvl_cells.specs.Checks.{Settled}
use Rattle.lvl_flat.specs.Candidates.{HasAll}
use Rattle.lvl_flat.specs.declared.candidates.Part.TheVariants.{Shape, Reference}
use Rattle.lvl_flat.proofs.Choosing.{all_references, all_shapes}
use Rattle.lvl_flat.proofs.fitted.Fitted.candidates.Goals as goal

pub returns : goal.returns
returns c = λ w.
    let s : Settled = c.self.inside.checked in
    let top : PlainCell Rings = c.cell-top.result.now in
    let at : slice_get s.cells s.top ≡ Some top = ap (slice_get s.cells) (sym c.top.ensures.value) ∙ c.cell-top.ensures in
    let shapes : c.below.result ≡ range_with_len 0 (length top.shapes) =
    c.below.ensures
    ∙ ap (range_with_len 0) (c.len.ensures ∙ ap (λ (b : PlainCell Rings). length b.shapes) c.top-2.view_is) in
    let references : c.below-2.result ≡ range_with_len 0 (length top.references) =
    c.below-2.ensures
    ∙ ap (range_with_len 0) (c.len-2.ensures ∙ ap (λ (b : PlainCell Rings). length b.references) c.top-2.view_is) in
    record {
      shapes =
          subst (λ (t : Settled). HasAll t w Shape c.below.result) c.self.view_is
          (subst (HasAll s w Shape) (sym shapes) (all_shapes s w top at));
      references =
          subst (λ (t : Settled). HasAll t w Reference c.below-2.result) c.self.view_is
          (subst (HasAll s w Reference) (sym references) (all_references s w top at));
    }
