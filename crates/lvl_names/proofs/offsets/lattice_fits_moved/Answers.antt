use Rattle.std.proofs.Common.{◌-◌, sym, subst, refl, arith, rules}
use Rattle.lvl_grid.specs.declared.point.Point.{Point}
use Rattle.lvl_grid.specs.Turn.{shifted, FitsPoint}
use Rattle.lvl_names.specs.Shifts.{steps}
use Rattle.lvl_names.proofs.Lattices.{stays_below, corners_moved}
use Rattle.lvl_names.proofs.offsets.lattice_fits_moved.Goals as goal

pub point_at-up-requires-clause-xs : goal.point_at-up-requires-clause-xs
point_at-up-requires-clause-xs c =
    stays_below c.args.a.x 0 (c.args.m - 1) c.args.b.x (c.args.n - 1) (c.args.n - 1) (omega arith) (omega arith)
    c.requires.xs

pub point_at-up-requires-clause-ys : goal.point_at-up-requires-clause-ys
point_at-up-requires-clause-ys c =
    stays_below c.args.a.y 0 (c.args.m - 1) c.args.b.y (c.args.n - 1) (c.args.n - 1) (omega arith) (omega arith)
    c.requires.ys

pub returns-then-not-fits_moved : goal.returns-then-not-fits_moved
returns-then-not-fits_moved c =
    let fits : FitsPoint c.args.by = record { x_fits = search rules; y_fits = search rules } in
    let corners = corners_moved c.args.by c.args.a c.args.m c.args.b c.args.n fits c.requires in
    let moved : Point → Type 0 = λ e. FitsPoint (shifted c.args.by e) in
    (λ e. cc, λ all. c.if-not-fits_moved.ensures.1 (subst moved (sym c.point_at-across.ensures) (corners.1 all).0))

pub returns-then-not-fits_moved-2 : goal.returns-then-not-fits_moved-2
returns-then-not-fits_moved-2 c =
    let fits : FitsPoint c.args.by = record { x_fits = search rules; y_fits = search rules } in
    let corners = corners_moved c.args.by c.args.a c.args.m c.args.b c.args.n fits c.requires in
    let moved : Point → Type 0 = λ e. FitsPoint (shifted c.args.by e) in
    (λ e. cc, λ all. c.if-not-fits_moved-2.ensures.1 (subst moved (sym c.point_at-up.ensures) (corners.1 all).1))

pub returns : goal.returns
returns c =
    let fits : FitsPoint c.args.by = record { x_fits = search rules; y_fits = search rules } in
    let corners = corners_moved c.args.by c.args.a c.args.m c.args.b c.args.n fits c.requires in
    let moved : Point → Type 0 = λ e. FitsPoint (shifted c.args.by e) in
    let first : moved (steps c.args.a (c.args.m - 1) c.args.b 0) =
    subst moved c.point_at-across.ensures (c.if-not-fits_moved.ensures.0 refl) in
    let second : moved (steps c.args.a 0 c.args.b (c.args.n - 1)) =
    subst moved c.point_at-up.ensures (c.if-not-fits_moved-2.ensures.0 refl) in (
      λ t. corners.0 (first, second, subst moved c.point_at-far.ensures (c.fits_moved-3.ensures.0 t)),
      λ all. c.fits_moved-3.ensures.1 (subst moved (sym c.point_at-far.ensures) (corners.1 all).2),
    )
