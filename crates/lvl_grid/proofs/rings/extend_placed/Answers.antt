use Rattle.std.proofs.Common.{◌≡◌, ◌++◌, ◌∷◌, [], ℕ, List, map, take, get_or, sym, subst, ◌∙◌, arith, ap, below_more}
use Rattle.std.proofs.Common.{append_assoc}
use Rattle.std.proofs.lemmas.List.{map_more, get_or_default}
use Rattle.lvl_grid.specs.declared.point.Point.{Point}
use Rattle.lvl_grid.specs.Turn.{FitsPoint}
use Rattle.lvl_grid.specs.Placed.{placed_point}
use Rattle.lvl_grid.proofs.Paths.{origin}
use Rattle.lvl_grid.proofs.rings.extend_placed.Goals as goal

pub loop-point-preserved : goal.loop-point-preserved
loop-point-preserved c =
    let xs : List Point = c.args.ring.now in
    let i : ℕ = c.loop-point.point-index in
    let f : Point → Point = placed_point c.args.by.now c.args.shift in
    let here = rw c.in-Some.is at c.place_moved.ensures in
    let image : c.in-Some.image ≡ f (get_or xs i origin) =
    here.1 ∙ ap f (get_or_default xs i _ origin c.loop-point-test.true) in
    record {
      start = c.loop-point.invariant.start;
      room = grind arith;
      count = grind arith;
      images = c.push_reserved.ensures.items
          ∙ (rw (image, c.loop-point.invariant.images)
          (append_assoc c.args.points.now.items (map f (take i xs)) (f (get_or xs i origin) ∷ []))
          ∙ ap (λ (ps : List Point). c.args.points.now.items ++ ps)
          (sym (map_more f xs i origin c.loop-point-test.true)));
      in_range = λ k d. below_more (λ n. FitsPoint (f (get_or xs n d))) i (λ n. c.loop-point.invariant.in_range n d)
          (subst (λ (p : Point). FitsPoint (f p)) (get_or_default xs i _ d c.loop-point-test.true) here.0) k;
    }
