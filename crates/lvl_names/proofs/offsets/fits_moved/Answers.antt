use Rattle.std.proofs.Common.{sym, ◌∙◌, rules}
use Rattle.std.specs.Int.{w64}
use mir.Val.{SFits}
use Rattle.lvl_names.proofs.Lattices.{moved_where}
use Rattle.lvl_names.proofs.offsets.fits_moved.Goals as goal

pub returns-then-is_some : goal.returns-then-is_some
returns-then-is_some c =
    let px : SFits w64 c.args.point.x = search rules in
    let bx : SFits w64 c.args.by.x = search rules in
    let py : SFits w64 c.args.point.y = search rules in
    let by : SFits w64 c.args.by.y = search rules in
    let xs = moved_where c.args.point.x c.args.by.x c.checked_add.result px bx c.checked_add.ensures in
    let ys =
    moved_where c.args.point.y c.args.by.y c.checked_add-then-is_some.result py by
    c.checked_add-then-is_some.ensures in
    rw c.is_some-then-is_some.ensures
    (λ t. record { x_fits = xs.0 (sym c.is_some.ensures ∙ c.if-is_some.true); y_fits = ys.0 t }, λ f. ys.1 f.y_fits)
