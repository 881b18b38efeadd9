-- The corners of a square's image are the images of its corners.
use Rattle.std.proofs.Common.{◌≡◌, Bool, true, false, ℤ, pos, ◌+ℤ◌, neg_ℤ, arith, ◌⊎◌, inl, inr, ◌↔◌}
use Rattle.std.proofs.lemmas.Int.{ints, clamps}
use Rattle.std.specs.Int.{int_min}
use Rattle.lvl_grid.specs.declared.point.Point.{Point}
use Rattle.lvl_grid.specs.declared.point.Square.{Square}
use Rattle.lvl_grid.specs.declared.map.Map.{Map}
use Rattle.lvl_grid.specs.declared.map.Turn.{Turn}
use Rattle.lvl_grid.specs.declared.map.Turn.TheVariants.{R0, R90, R180, R270}
use Rattle.lvl_grid.specs.Turn.{image, image_square}
use Rattle.lvl_grid.specs.Squares.{IsCornerOf}

-- p is s or s + 1
abbrev Ends : ℤ → ℤ → Type 0
Ends s p = (p ≡ s) ⊎ (p ≡ s +ℤ pos 1)

-- along one axis, where the map acts as f: the images of the two ends are the two ends of the image
abbrev EndsAlso : (ℤ → ℤ) → ℤ → ℤ → ℤ → Type 0
EndsAlso f d s p = Ends (int_min (f s +ℤ d) (f (s +ℤ pos 1) +ℤ d)) (f p +ℤ d)

rises-there : (d s p : ℤ) → Ends s p → EndsAlso (λ a. a) d s p
rises-there d s p (inl e) = inl (omega (arith, ints, clamps))
rises-there d s p (inr e) = inr (omega (arith, ints, clamps))

rises-back : (d s p : ℤ) → EndsAlso (λ a. a) d s p → Ends s p
rises-back d s p (inl e) = inl (omega (arith, ints, clamps))
rises-back d s p (inr e) = inr (omega (arith, ints, clamps))

falls-there : (d s p : ℤ) → Ends s p → EndsAlso neg_ℤ d s p
falls-there d s p (inl e) = inr (omega (arith, ints, clamps))
falls-there d s p (inr e) = inl (omega (arith, ints, clamps))

falls-back : (d s p : ℤ) → EndsAlso neg_ℤ d s p → Ends s p
falls-back d s p (inl e) = inr (omega (arith, ints, clamps))
falls-back d s p (inr e) = inl (omega (arith, ints, clamps))

returns-there : (d s p : ℤ) → Ends s p → EndsAlso (λ a. neg_ℤ (neg_ℤ a)) d s p
returns-there d s p (inl e) = inl (omega (arith, ints, clamps))
returns-there d s p (inr e) = inr (omega (arith, ints, clamps))

returns-back : (d s p : ℤ) → EndsAlso (λ a. neg_ℤ (neg_ℤ a)) d s p → Ends s p
returns-back d s p (inl e) = inl (omega (arith, ints, clamps))
returns-back d s p (inr e) = inr (omega (arith, ints, clamps))

corners-there : (t : Turn) (f : Bool) (d : Point) (s : Square) (p : Point) → IsCornerOf s p
    → IsCornerOf (image_square (record { flip = f; turn = t; at = d }) s)
    (image (record { flip = f; turn = t; at = d }) p)
corners-there R0 false d s p c =
    record { column = rises-there d.x s.x p.x c.column; row = rises-there d.y s.y p.y c.row }
corners-there R0 true d s p c =
    record { column = rises-there d.x s.x p.x c.column; row = falls-there d.y s.y p.y c.row }
corners-there R90 false d s p c =
    record { column = falls-there d.x s.y p.y c.row; row = rises-there d.y s.x p.x c.column }
corners-there R90 true d s p c =
    record { column = returns-there d.x s.y p.y c.row; row = rises-there d.y s.x p.x c.column }
corners-there R180 false d s p c =
    record { column = falls-there d.x s.x p.x c.column; row = falls-there d.y s.y p.y c.row }
corners-there R180 true d s p c =
    record { column = falls-there d.x s.x p.x c.column; row = returns-there d.y s.y p.y c.row }
corners-there R270 false d s p c =
    record { column = rises-there d.x s.y p.y c.row; row = falls-there d.y s.x p.x c.column }
corners-there R270 true d s p c =
    record { column = falls-there d.x s.y p.y c.row; row = falls-there d.y s.x p.x c.column }

corners-back : (t : Turn) (f : Bool) (d : Point) (s : Square) (p : Point)
    → IsCornerOf (image_square (record { flip = f; turn = t; at = d }) s)
    (image (record { flip = f; turn = t; at = d }) p)
    → IsCornerOf s p
corners-back R0 false d s p c =
    record { column = rises-back d.x s.x p.x c.column; row = rises-back d.y s.y p.y c.row }
corners-back R0 true d s p c =
    record { column = rises-back d.x s.x p.x c.column; row = falls-back d.y s.y p.y c.row }
corners-back R90 false d s p c =
    record { column = rises-back d.y s.x p.x c.row; row = falls-back d.x s.y p.y c.column }
corners-back R90 true d s p c =
    record { column = rises-back d.y s.x p.x c.row; row = returns-back d.x s.y p.y c.column }
corners-back R180 false d s p c =
    record { column = falls-back d.x s.x p.x c.column; row = falls-back d.y s.y p.y c.row }
corners-back R180 true d s p c =
    record { column = falls-back d.x s.x p.x c.column; row = returns-back d.y s.y p.y c.row }
corners-back R270 false d s p c =
    record { column = falls-back d.y s.x p.x c.row; row = rises-back d.x s.y p.y c.column }
corners-back R270 true d s p c =
    record { column = falls-back d.y s.x p.x c.row; row = falls-back d.x s.y p.y c.column }

pub corners_keep : (m : Map) (s : Square) (p : Point) → IsCornerOf s p ↔ IsCornerOf (image_square m s) (image m p)
corners_keep m s p = (corners-there m.turn m.flip m.at s p, corners-back m.turn m.flip m.at s p)
