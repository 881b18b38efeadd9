use Rattle.std.proofs.Common.{◌≡◌, Some, slice_get, subst}
use Rattle.std.specs.Option.{option_copied}
use Rattle.lvl_cells.specs.Checks.{Settled}
use Rattle.lvl.specs.Kept.{IsInRangeAs}
use Rattle.lvl.specs.Sides.{kept_named}
use Rattle.lvl.proofs.Digesting.{kept_digested}
use Rattle.lvl.proofs.Viewing.{in_range_as}
use Rattle.lvl.proofs.digest.digest_library.Goals as goal

pub returns-clause-digested : goal.returns-clause-digested
returns-clause-digested c =
    let s : Settled = c.in_ok-fitted.fitted in
    let same : s ≡ c.in_ok-checked.checked = c.in_ok-fitted.ensures.same in
    let in_range : IsInRangeAs (kept_named c.args.limits c.args.library (option_copied c.args.top)) s =
    in_range_as _ c.in_ok-checked.checked s c.in_ok-checked.ensures.checked same c.in_ok-fitted.ensures.in_range in
    kept_digested _ s in_range _
    (c.in-Ok.ensures in_range.top (subst (λ (t : Settled). slice_get t.cells t.top ≡ Some in_range.top) same
    in_range.is_top))
    c.in-Ok-digest_fitted.ensures
