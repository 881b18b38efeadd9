-- Bands by the direction of their run, and the squares that a band's ring covers.
use Rattle.std.proofs.Common.{◌≡◌, ℕ, ℤ, ap, sym, ◌∙◌}
use Rattle.lvl_grid.specs.declared.point.Point.{Point}
use Rattle.lvl_path.specs.declared.band.Band.{Band}
use Rattle.lvl_path.specs.declared.way.Way.{Way}
use Rattle.lvl_path.specs.Ways.{way_between}
use Rattle.lvl_path.specs.Bands.{band_towards, band_between}

-- bands with equal sides are equal
pub same_band : (b c : Band) → b.x0 ≡ c.x0 → b.y0 ≡ c.y0 → b.x1 ≡ c.x1 → b.y1 ≡ c.y1 → b ≡ c
same_band b c e f g h =
    let of : (x0 y0 x1 y1 : ℤ) → Band = λ x0 y0 x1 y1. record { x0 = x0; y0 = y0; x1 = x1; y1 = y1 } in
    ap (λ z. of z b.y0 b.x1 b.y1) e
    ∙ (ap (λ z. of c.x0 z b.x1 b.y1) f ∙ (ap (λ z. of c.x0 c.y0 z b.y1) g ∙ ap (of c.x0 c.y0 c.x1) h))

-- the band by the direction of its run is the band of the run
pub by_way : (w v : Way) (p q : Point) (half before after : ℕ) → w ≡ way_between p q → w ≡ v → (b : Band)
    → b ≡ band_towards v p q half before after → b ≡ band_between p q half before after
by_way w v p q half before after e f b h = h ∙ ap (λ u. band_towards u p q half before after) (sym f ∙ e)
