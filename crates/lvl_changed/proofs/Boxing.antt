-- The window of a ring's points.
use Rattle.std.proofs.Common.{◌≡◌, ◌<◌, ◌≤◌, ◌+◌, ◌++◌, ◌∷◌, [], ℕ, List, All, take, length, get_or, sym, subst, arith}
use Rattle.std.proofs.lemmas.Int.{ints, clamps}
use Rattle.std.proofs.lemmas.List.{take_all, take_more}
use Rattle.std.proofs.lemmas.List.Elements.{All-push, All-weaker}
use Rattle.lvl_grid.specs.declared.point.Point.{Point}
use Rattle.lvl_grid.specs.declared.point.Square.{Square}
use Rattle.lvl_grid.specs.declared.point.Window.{Window}
use Rattle.lvl_grid.specs.Clip.{IsInWindow}
use Rattle.lvl_grid.specs.Winding.{Covers}
use Rattle.lvl_flat.specs.Boxes.{HoldsPoint}
use Rattle.lvl_flat.proofs.Outside.{ring_square, square_window}
use Rattle.lvl_compare.proofs.InStrips.{hull}
use Rattle.lvl_changed.specs.inside.Shapes.{corners}
use Rattle.lvl_changed.proofs.Widening.{at_point}

-- a point between the corners of one of two windows is between those of the joined one
pub hull_points : (v w : Window) (p : Point) → HoldsPoint (corners v) p → HoldsPoint (corners (hull v w)) p
hull_points v w p h = record {
  left = omega (arith, ints, clamps, h.left);
  right = omega (arith, ints, clamps, h.right);
  below = omega (arith, ints, clamps, h.below);
  above = omega (arith, ints, clamps, h.above);
}

-- and the joined point is
pub hull_point : (v : Window) (p : Point) → HoldsPoint (corners (hull v (at_point p))) p
hull_point v p = record {
  left = omega (arith, ints, clamps);
  right = omega (arith, ints, clamps);
  below = omega (arith, ints, clamps);
  above = omega (arith, ints, clamps);
}

-- with one more point
pub box_more : (held spot next : Window) (ps : List Point) (i : ℕ) (none : Point) → i < length ps
    → spot ≡ at_point (get_or ps i none) → next ≡ hull held spot → All (HoldsPoint (corners held)) (take i ps)
    → All (HoldsPoint (corners next)) (take (i + 1) ps)
box_more held spot next ps i none low at is all =
    let p : Point = get_or ps i none in
    let whole : All (HoldsPoint (corners (hull held (at_point p)))) (take i ps ++ p ∷ []) =
    All-push (HoldsPoint (corners (hull held (at_point p)))) (take i ps) p
    (All-weaker (HoldsPoint (corners held)) (HoldsPoint (corners (hull held (at_point p))))
    (λ q h. hull_points held (at_point p) q h) (take i ps) all) (hull_point held p) in
    subst (λ (w : Window). All (HoldsPoint (corners w)) (take (i + 1) ps)) (sym is)
    (subst (λ (w : Window). All (HoldsPoint (corners (hull held w))) (take (i + 1) ps)) (sym at)
    (subst (λ qs. All (HoldsPoint (corners (hull held (at_point p)))) qs) (sym (take_more ps i none low)) whole))

-- the squares that a ring covers are in the window of all its points
pub box_has : (held : Window) (ring : List Point) (i : ℕ) → length ring ≤ i
    → All (HoldsPoint (corners held)) (take i ring) → (s : Square) → Covers ring s → IsInWindow held s
box_has held ring i long all s covers =
    let whole : All (HoldsPoint (corners held)) ring = subst (λ ps. All (HoldsPoint (corners held)) ps)
    (take_all i ring long) all in
    square_window (corners held) s (ring_square (corners held) ring s whole covers)
