use Rattle.std.proofs.Common.{◌≡◌, ◌+ℤ◌, ap, subst, ◌∙◌}
use Rattle.lvl_grid.specs.declared.point.Point.{Point}
use Rattle.lvl_grid.specs.declared.point.Window.{Window}
use Rattle.lvl_grid.specs.Turn.{shifted}
use Rattle.lvl_names.specs.Shifts.{IsBetween}
use Rattle.lvl_changed.proofs.Arraying.{everywhere_has}
use Rattle.lvl_changed.proofs.windows.everywhere.Goals as goal

pub returns : goal.returns
returns c = λ e there s h.
    let first : Window = c.in_ok-first.first in
    let least : Point = c.reach.result.0 in
    let greatest : Point = c.reach.result.1 in
    let of : Point → Point → Window = λ p q. record { x0 = p.x; y0 = p.y; x1 = q.x; y1 = q.y } in
    let low : c.in_ok-low.low ≡ shifted least (record { x = first.x0; y = first.y0 }) =
    c.in_ok-low.ensures.1 ∙ ap (shifted least) c.low_corner.ensures in
    let high : c.in_ok-high.high ≡ shifted greatest (record { x = first.x1; y = first.y1 }) =
    c.in_ok-high.ensures.1 ∙ ap (shifted greatest) c.high_corner.ensures in
    let is : c.between.result ≡ record {
      x0 = first.x0 +ℤ least.x;
      y0 = first.y0 +ℤ least.y;
      x1 = first.x1 +ℤ greatest.x;
      y1 = first.y1 +ℤ greatest.y;
    } =
    c.between.ensures
    ∙ (ap (λ p. of p c.in_ok-high.high) low
    ∙ ap (of (shifted least (record { x = first.x0; y = first.y0 }))) high) in
    everywhere_has c.args.array.now first c.between.result least greatest e s (c.in_ok-first.ensures s h)
    (subst (IsBetween least greatest) there.2 (c.reach.ensures there.0 e there.1)) is
