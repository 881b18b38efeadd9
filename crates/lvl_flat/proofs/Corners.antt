-- Images of the points of a box.
use Rattle.std.proofs.Common.{◌≡◌, ℤ, ◌≤ℤ◌, ◌+ℤ◌, neg_ℤ, Bool, true, false, ◌⊎◌, inl, inr, arith}
use Rattle.std.proofs.lemmas.Int.{ints}
use Rattle.lvl_grid.specs.declared.point.Point.{Point}
use Rattle.lvl_grid.specs.declared.map.Map.{Map}
use Rattle.lvl_grid.specs.declared.map.Turn.{Turn}
use Rattle.lvl_grid.specs.declared.map.Turn.TheVariants.{R0, R90, R180, R270}
use Rattle.lvl_grid.specs.Turn.{image}
use Rattle.lvl_flat.specs.declared.bounds.Bounds.{Bounds}
use Rattle.lvl_flat.specs.Boxes.{HoldsPoint}

-- z is between x and y, in either order
record IsBetween (x z y : ℤ) : Type 0 where
  way : ((x ≤ℤ z) × (z ≤ℤ y)) ⊎ ((y ≤ℤ z) × (z ≤ℤ x))

up : (a d z b : ℤ) → a ≤ℤ z → z ≤ℤ b → IsBetween (a +ℤ d) (z +ℤ d) (b +ℤ d)
up a d z b h k = record { way = inl (omega (arith, ints), omega (arith, ints)) }

down : (a d z b : ℤ) → a ≤ℤ z → z ≤ℤ b → IsBetween (neg_ℤ a +ℤ d) (neg_ℤ z +ℤ d) (neg_ℤ b +ℤ d)
down a d z b h k = record { way = inr (omega (arith, ints), omega (arith, ints)) }

twice : (z d : ℤ) → neg_ℤ (neg_ℤ z) +ℤ d ≡ z +ℤ d
twice z d = omega (arith, ints)

-- along both axes the image of a point is between those of the corners
abbrev Lies : Map → Bounds → Point → Type 0
Lies m b p =
    IsBetween (image m b.low).x (image m p).x (image m b.high).x
    × IsBetween (image m b.low).y (image m p).y (image m b.high).y

lies : (f : Bool) (t : Turn) (at : Point) (b : Bounds) (p : Point) → HoldsPoint b p
    → Lies (record { flip = f; turn = t; at = at }) b p
lies false R0 at b p w = (up b.low.x at.x p.x b.high.x w.left w.right, up b.low.y at.y p.y b.high.y w.below w.above)
lies false R90 at b p w = (down b.low.y at.x p.y b.high.y w.below w.above, up b.low.x at.y p.x b.high.x w.left w.right)
lies false R180 at b p w =
    (down b.low.x at.x p.x b.high.x w.left w.right, down b.low.y at.y p.y b.high.y w.below w.above)
lies false R270 at b p w = (up b.low.y at.x p.y b.high.y w.below w.above, down b.low.x at.y p.x b.high.x w.left w.right)
lies true R0 at b p w = (up b.low.x at.x p.x b.high.x w.left w.right, down b.low.y at.y p.y b.high.y w.below w.above)
lies true R90 at b p w = (
  record { way = inl (omega (arith, ints, w.below), omega (arith, ints, w.above)) },
  up b.low.x at.y p.x b.high.x w.left w.right,
)
lies true R180 at b p w = (
  down b.low.x at.x p.x b.high.x w.left w.right,
  record {
    way = inl (omega (arith, ints, w.below), omega (arith, ints, w.above));
  },
)
lies true R270 at b p w =
    (down b.low.y at.x p.y b.high.y w.below w.above, down b.low.x at.y p.x b.high.x w.left w.right)

inside : (l x z y h : ℤ) → IsBetween x z y → l ≤ℤ x → x ≤ℤ h → l ≤ℤ y → y ≤ℤ h → (l ≤ℤ z) × (z ≤ℤ h)
inside l x z y h b p q r s = elim b.way [
  | inl w ↦ (omega (arith, ints, w.0), omega (arith, ints, w.1))
  | inr w ↦ (omega (arith, ints, w.0), omega (arith, ints, w.1))
]

-- a box that has the images of two corners has the image of each point between them
pub placed_within : (m : Map) (b r : Bounds) (p : Point) → HoldsPoint r (image m b.low) → HoldsPoint r (image m b.high)
    → HoldsPoint b p → HoldsPoint r (image m p)
placed_within m b r p low high w =
    let both = lies m.flip m.turn m.at b p w in
    let across =
    inside r.low.x (image m b.low).x (image m p).x (image m b.high).x r.high.x both.0 low.left low.right high.left
    high.right in
    let along =
    inside r.low.y (image m b.low).y (image m p).y (image m b.high).y r.high.y both.1 low.below low.above high.below
    high.above in
    record { left = across.0; right = across.1; below = along.0; above = along.1 }
