use Rattle.std.proofs.Common.{◌≡◌, List, Some, IfSome, slice_get, length, ap, subst, ◌∙◌}
use Rattle.lvl_cells.specs.Cells.{each_ring}
use Rattle.lvl_cells.specs.Checks.{Settled}
use Rattle.lvl_count.specs.Counted.{AreCounted}
use Rattle.lvl_count.specs.declared.counts.LayerRings.{LayerRings}
use Rattle.lvl.specs.Kept.{IsInRangeAs}
use Rattle.lvl.specs.Sides.{kept_named}
use Rattle.std.specs.Option.{option_copied}
use Rattle.lvl.proofs.Viewing.{in_range_as}
use Rattle.lvl.proofs.show.show_library.Goals as goal

pub returns-clause-shown : goal.returns-clause-shown
returns-clause-shown c =
    let s : Settled = c.in_ok-fitted.fitted in
    let same : s ≡ c.in_ok-checked.checked = c.in_ok-fitted.ensures.same in
    let in_range : IsInRangeAs (kept_named c.args.limits c.args.library (option_copied c.args.top)) s =
    in_range_as _ c.in_ok-checked.checked s c.in_ok-checked.ensures.checked same c.in_ok-fitted.ensures.in_range in
    let seen : c.checked-checked.result.now ≡ s = c.checked-checked.ensures.library in
    let layers : List LayerRings = c.in-Ok-rings_by_layer.layers.items in
    record {
      settled = s;
      in_range = in_range;
      shown_is = record {
        top_is =
            c.in-Ok.ensures in_range.top
            (subst (λ (t : Settled). slice_get t.cells t.top ≡ Some in_range.top) same in_range.is_top);
        cells_are = ap length c.cells.ensures.value ∙ ap (λ (t : Settled). length t.cells) seen;
        layers_are =
            subst (λ o. IfSome o (λ top. AreCounted each_ring s.cells top layers)) in_range.is_top
            (subst (λ (t : Settled). IfSome (slice_get t.cells t.top) (λ top. AreCounted each_ring t.cells top layers))
            seen c.in-Ok-rings_by_layer.ensures);
      };
    }
