use Rattle.std.proofs.Common.{refl}
use Rattle.lvl_names.proofs.Reaches.{bounds_moved}
use Rattle.lvl_names.proofs.offsets.bounded_fits_moved.Goals as goal

pub returns-then-fits_moved : goal.returns-then-fits_moved
returns-then-fits_moved c =
    let corners = bounds_moved c.args.by c.args.list.now c.requires in (
      λ t. corners.0 (c.if-fits_moved.ensures.0 refl, c.fits_moved-then-fits_moved.ensures.0 t),
      λ all. c.fits_moved-then-fits_moved.ensures.1 (corners.1 all).1,
    )

pub returns-else-fits_moved : goal.returns-else-fits_moved
returns-else-fits_moved c =
    let corners = bounds_moved c.args.by c.args.list.now c.requires in
    (λ t. cc, λ all. c.fits_moved.ensures.1 (corners.1 all).0)
