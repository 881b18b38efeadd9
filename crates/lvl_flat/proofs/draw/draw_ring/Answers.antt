use Rattle.std.proofs.Common.{◌≡◌, [], List, Err, Some, slice_get, get_or, sym, subst, ap, refl}
use Rattle.std.proofs.lemmas.Result.{err_from_is_err_and}
use Rattle.lvl_grid.specs.declared.map.Map.{Map}
use Rattle.lvl_grid.specs.declared.point.Point.{Point}
use Rattle.lvl_grid.specs.declared.ring.PlaceFault.{PlaceFault}
use Rattle.lvl_grid.proofs.Paths.{origin}
use Rattle.lvl_names.specs.Shifts.{one_place}
use Rattle.lvl_cells.specs.Cells.{Rings, shape_at}
use Rattle.lvl_flat.specs.declared.scope.Scope.{Scope}
use Rattle.lvl_flat.specs.declared.scope.Scope.TheVariants.{Within}
use Rattle.lvl_flat.specs.inside.Drawn.{IsRingDrawn}
use Rattle.lvl_flat.specs.Flattened.{FitsRing}
use Rattle.lvl_flat.proofs.Skipping.{drawn_none, drawn_more, fits_at}
use Rattle.lvl_flat.proofs.draw.draw_ring.Goals as goal

pub returns-in_err-draw_place-clause-out : goal.returns-in_err-draw_place-clause-out
returns-in_err-draw_place-clause-out c = λ out fits.
    let m : Map = c.args.map.now in
    let ring : List Point = get_or (shape_at c.args.shapes.now c.args.i).figure c.args.j [] in
    let shifts : List Point = (shape_at c.args.shapes.now c.args.i).shifts in
    let seen : slice_get shifts 0 ≡ Some origin =
    ap (λ (es : List Point). slice_get es 0) c.in_default-shifts.ensures.none in
    let p = err_from_is_err_and c.from_residual.result c.from_residual.ensures.1 in
    let same : Err c.in_err-draw_place.field-0.0 ≡ Err PlaceFault.OutOfRange = cc in
    c.in_err-draw_place.ensures.out same
    (subst (λ (r : List Point). FitsRing m origin r) (sym c.ring-ring.ensures.value)
    (fits_at m ring shifts 0 origin fits seen))

pub returns-in_default-shifts-clause-drawn : goal.returns-in_default-shifts-clause-drawn
returns-in_default-shifts-clause-drawn c =
    let m : Map = c.args.map.now in
    let old : Rings = c.args.rings.now in
    let new : Rings = c.draw_place.new.rings in
    let within : Scope = Within c.in-Within.window in
    let ring : List Point = c.ring-ring.result in
    let drawn : IsRingDrawn m within one_place ring old new =
    drawn_more m within ring one_place old old new 0 origin (drawn_none m within ring old) refl
    c.in_ok-draw_place.ensures.covers c.in_ok-draw_place.ensures.fits (λ all. cc) in
    let drawn_at : Scope → List Point → List Point → Type 0 = λ scope es r. IsRingDrawn m scope es r old new in
    let shifts : List Point = (shape_at c.args.shapes.now c.args.i).shifts in
    let whole : List Point = get_or (shape_at c.args.shapes.now c.args.i).figure c.args.j [] in
    subst (λ scope. drawn_at scope shifts whole) (sym c.in-Within.is)
    (subst (λ es. drawn_at within es whole) (sym c.in_default-shifts.ensures.none)
    (subst (drawn_at within one_place) c.ring-ring.ensures.value drawn))
