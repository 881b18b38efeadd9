use Rattle.std.proofs.Common.{◌++◌, ◌∙◌, List, ap, subst, sym, All}
use Rattle.lvl_grid.specs.Winding.{SomeCovers}
use Rattle.lvl_corners.specs.declared.corner.Corner.{Corner}
use Rattle.lvl_corners.specs.Corners.{AreCornersOf, FitsCorner}
use Rattle.lvl_corners.proofs.same.corners_of.Goals as goal

pub returns-clause-corners : goal.returns-clause-corners
returns-clause-corners c =
    let sent = c.in_ok-send_corners.ensures.sent in
    subst (AreCornersOf (SomeCovers c.args.rings.now)) (sym (sent.1 ∙ ap (λ (ks : List Corner). ks ++ sent.0)
    c.new-corners.ensures.items))
    sent.3

pub returns-clause-fits : goal.returns-clause-fits
returns-clause-fits c =
    let sent = c.in_ok-send_corners.ensures.sent in
    subst (All FitsCorner) (sym (sent.1 ∙ ap (λ (ks : List Corner). ks ++ sent.0) c.new-corners.ensures.items)) sent.2
