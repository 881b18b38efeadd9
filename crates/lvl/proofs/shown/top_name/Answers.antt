use Rattle.std.proofs.Common.{◌≡◌, ℕ, List, Some, slice_get, get_or, ap, ◌∙◌}
use Rattle.std.specs.Prelude.{Vec}
use Rattle.std.specs.Global.{Global}
use Rattle.std.proofs.lemmas.Option.{get_or_from_slice_get}
use Rattle.std.proofs.lemmas.Result.{IfOk-weaker}
use Rattle.lvl_cells.specs.Cells.{PlainCell, Rings}
use Rattle.lvl.proofs.shown.top_name.Goals as goal

pub returns : goal.returns
returns c =
    let s = c.args.checked.now in
    let cell = c.index-cells-top.result in
    let named : (name : Vec ℕ Global) → name.items ≡ c.as_bytes.result.now → (top : PlainCell Rings)
    → slice_get s.cells s.top ≡ Some top → name.items ≡ top.name =
    λ name items top is.
    let picked : get_or c.cells.result.now c.top.result cell ≡ top =
    ap (λ (xs : List (PlainCell Rings)). get_or xs c.top.result cell) c.cells.ensures.value
    ∙ (ap (λ n. get_or s.cells n cell) c.top.ensures.value ∙ get_or_from_slice_get s.cells s.top top cell is) in
    items
    ∙ (c.as_bytes.ensures
    ∙ ap (λ (cell : PlainCell Rings). cell.name) (c.top-2.view_is ∙ (c.index-cells-top.is ∙ picked))) in
    IfOk-weaker _ _ _ named c.from_slice.ensures.items
