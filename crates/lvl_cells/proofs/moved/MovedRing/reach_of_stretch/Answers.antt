use Rattle.std.proofs.Common.{◌≡◌, ◌*◌, ℕ, List, All, map, refl, subst, ap, ◌∙◌}
use Rattle.std.proofs.lemmas.List.{drop-map, take-map}
use Rattle.std.proofs.lemmas.List.Elements.{All-map}
use Rattle.lvl_grid.specs.declared.point.Point.{Point}
use Rattle.lvl_grid.specs.Turn.{shifted}
use Rattle.lvl_names.specs.Shifts.{IsBetween}
use Rattle.lvl_cells.specs.Stretches.{stretch_at}
use Rattle.lvl_cells.specs.inside.Outlines.{ring_of}
use Rattle.lvl_cells.proofs.Moving.{between_moved}
use Rattle.lvl_cells.proofs.moved.MovedRing.reach_of_stretch.Goals as goal

stretch_moved : (by : Point) (points : List Point) (k : ℕ)
    → map (shifted by) (stretch_at points k) ≡ stretch_at (map (shifted by) points) k
stretch_moved by points k = rw (drop-map (shifted by) (128 * k) points, take-map (shifted by) 128) refl

pub returns : goal.returns
returns c =
    let by : Point = c.self.inside.by in
    let low : Point = c.in_ok-low.low in
    let high : Point = c.in_ok-low.high in
    let points : List Point = ring_of c.self.inside.outline in
    let low_is : c.in_ok-moved.field-0 ≡ shifted by low = c.in_ok-moved.ensures.1 in
    let high_is : c.in_ok-moved-2.field-0 ≡ shifted by high = c.in_ok-moved-2.ensures.1 in
    let P : Point → Type 0 = IsBetween (shifted by low) (shifted by high) in
    let same : map (shifted by) (stretch_at points c.args.k) ≡ stretch_at c.args.self.now c.args.k =
    stretch_moved by points c.args.k ∙ ap (λ ps. stretch_at ps c.args.k) c.self.view_is in
    rw (low_is, high_is) (subst (All P) same
    (All-map P (shifted by) (stretch_at points c.args.k)
    (λ k d lt. between_moved by low high _ (c.in_ok-low.ensures k d lt))))
