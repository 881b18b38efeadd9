use Rattle.std.proofs.Common.{◌≡◌, ℕ, List, map, get_or, sym, subst, ◌∙◌, arith, ap, below_more}
use Rattle.std.proofs.lemmas.List.{map_more, get_or_default, take_all}
use Rattle.lvl_grid.specs.declared.point.Point.{Point}
use Rattle.lvl_grid.specs.Turn.{FitsPoint}
use Rattle.lvl_grid.specs.Placed.{placed_point}
use Rattle.lvl_grid.specs.Winding.{IsRing}
use Rattle.lvl_grid.proofs.Paths.{origin}
use Rattle.lvl_grid.proofs.Placed.{IsRing-placed, covers_placed}
use Rattle.lvl_grid.proofs.ring.Ring.placed.Goals as goal

pub loop-point-preserved : goal.loop-point-preserved
loop-point-preserved c =
    let xs : List Point = c.deref-point-items.result.now in
    let i : ℕ = c.loop-point.point-index in
    let here = rw c.in-Some.is at c.place_moved.ensures in
    let image : c.in-Some.image ≡ placed_point c.args.by.now c.args.shift (get_or xs i origin) =
    here.1 ∙ ap (placed_point c.args.by.now c.args.shift) (get_or_default xs i _ origin c.loop-point-test.true) in
    record {
      room = grind arith;
      count = grind arith;
      images =
          c.push_reserved.ensures.items
          ∙ (rw (image, c.loop-point.invariant.images)
          (sym (map_more (placed_point c.args.by.now c.args.shift) xs i origin c.loop-point-test.true)));
      in_range =
          λ k d. below_more (λ n. FitsPoint (placed_point c.args.by.now c.args.shift (get_or xs n d))) i
          (λ n. c.loop-point.invariant.in_range n d)
          (subst (λ (p : Point). FitsPoint (placed_point c.args.by.now c.args.shift p))
          (get_or_default xs i _ d c.loop-point-test.true) here.0) k;
    }

-- the loop goes over the ring's own points
items_are : (c : goal.After-loop-point) → c.deref-point-items.result.now ≡ c.args.self.now
items_are c = cc

images_are : (c : goal.After-loop-point)
    → c.loop-point.points.items ≡ map (placed_point c.args.by.now c.args.shift) c.args.self.now
images_are c =
    c.loop-point.invariant.images
    ∙ ap (map (placed_point c.args.by.now c.args.shift))
    (take_all c.loop-point.point-index c.deref-point-items.result.now c.loop-point-test.false ∙ items_are c)

pub returns-clause-points : goal.returns-clause-points
returns-clause-points c = images_are c

ring_given : (c : goal.After-loop-point) → IsRing c.args.self.now
ring_given c = let same : c.self.inside.points.items ≡ c.args.self.now = cc in subst IsRing same c.self.invariant

pub invariant_of-result : goal.invariant_of-result
invariant_of-result c =
    subst IsRing (sym (images_are c)) (IsRing-placed c.args.by.now c.args.shift c.args.self.now (ring_given c))

pub returns-clause-covers : goal.returns-clause-covers
returns-clause-covers c =
    rw (images_are c) (covers_placed c.args.by.now c.args.shift c.args.self.now (ring_given c).straight)

pub returns-clause-in_range : goal.returns-clause-in_range
returns-clause-in_range c = λ k d h.
    let items = items_are c in
    subst (λ (xs : List Point). FitsPoint (placed_point c.args.by.now c.args.shift (get_or xs k d))) items
    (c.loop-point.invariant.in_range k d (grind arith))
