use Rattle.std.proofs.Common.{◌≡◌, ◌<◌, ◌+◌, ◌*◌, List, All, get_or, length, arith, ap, subst, sym, ◌∙◌}
use Rattle.std.proofs.lemmas.List.{get_or_default}
use Rattle.lvl_grid.specs.declared.point.Point.{Point}
use Rattle.lvl_names.specs.Shifts.{IsBetween}
use Rattle.lvl_cells.specs.Stretches.{stretch_at}
use Rattle.lvl_cells.specs.inside.Outlines.{ring_of}
use Rattle.lvl_cells.specs.inside.Spans.{origin}
use Rattle.lvl_cells.proofs.outline.Outline.reach_of_stretch.Goals as goal

pub returns : goal.returns
returns c =
    let corners : List Point = c.args.self.now.corners.now in
    let low : Point = c.in_ok-get.field-0.now in
    let high : Point = c.in_ok-get-2.field-0.now in
    let two : c.in_ok-low.low ≡ 2 * c.args.k = omega (arith, c.in_ok-low.ensures) in
    let more : c.in_ok-high.high ≡ 2 * c.args.k + 1 = omega (arith, two, c.in_ok-high.ensures) in
    let first : c.in_ok-low.low < length corners = c.in_ok-get.ensures.lookup.3.0 in
    let second : c.in_ok-high.high < length corners = c.in_ok-get-2.ensures.lookup.3.0 in
    let is_low : get_or corners (2 * c.args.k) origin ≡ low =
    ap (λ i. get_or corners i origin) (sym two)
    ∙ (get_or_default corners c.in_ok-low.low origin low first ∙ sym c.in_ok-get.ensures.lookup.1) in
    let is_high : get_or corners (2 * c.args.k + 1) origin ≡ high =
    ap (λ i. get_or corners i origin) (sym more)
    ∙ (get_or_default corners c.in_ok-high.high origin high second ∙ sym c.in_ok-get-2.ensures.lookup.1) in
    subst (λ p. All (IsBetween low p) (stretch_at (ring_of c.args.self.now) c.args.k)) is_high
    (subst
    (λ p. All (IsBetween p (get_or corners (2 * c.args.k + 1) origin)) (stretch_at (ring_of c.args.self.now) c.args.k))
    is_low (c.requires.stretches c.args.k (omega (arith, more, second))))
