use Rattle.std.proofs.Common.{◌≡◌, ℕ, List, drop, take, map, sym, ap, ◌∙◌}
use Rattle.lvl_grid.specs.declared.point.Point.{Point}
use Rattle.lvl_grid.specs.Turn.{shifted}
use Rattle.lvl_cells.proofs.Moving.{same_parts}
use Rattle.lvl_cells.proofs.moved.MovedRing.has_points_of.Goals as goal

-- a part of the points that are kept, moved, is one of those that they mean
part_seen : (by : Point) (kept points view : List Point) (from count : ℕ) → kept ≡ points
    → map (shifted by) points ≡ view
    → take count (drop from (map (shifted by) kept)) ≡ take count (drop from view)
part_seen by kept points view from count is seen =
    ap (λ ps. take count (drop from ps)) (ap (map (shifted by)) is ∙ seen)

pub returns-in-Some-Some : goal.returns-in-Some-Some
returns-in-Some-Some c = λ t.
    let xs : List Point = c.as_slice.result.now in
    let ys : List Point = c.as_slice-2.result.now in
    let by : Point = c.self.inside.by in
    let e : Point = c.other.inside.by in
    sym (part_seen by xs _ _ c.args.from c.args.count (c.as_slice.ensures ∙ c.kept-ours.ensures) c.self.view_is)
    ∙ (same_parts by e c.in-Some.by xs ys c.in-Some-Some.ours.now c.in-Some-Some.theirs.now c.args.from c.args.at
    c.args.count c.in-Some.ensures c.in-Some-Some.ensures c.in-Some-Some.ensures' (c.is_again.ensures t).is
    ∙ part_seen e ys _ _ c.args.at c.args.count (c.as_slice-2.ensures ∙ c.kept-theirs.ensures) c.other.view_is)
