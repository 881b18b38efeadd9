-- The definitions of winding and of maps, computed on small examples.
use Rattle.std.proofs.Common.{◌≡◌, ℕ, List, [], ◌∷◌, ◌++◌, true, false, pos, negsuc, refl}
use Rattle.lvl_grid.specs.declared.map.Map.{Map}
use Rattle.lvl_grid.specs.declared.map.Turn.TheVariants.{R0, R90, R180, R270}
use Rattle.lvl_grid.specs.declared.point.Point.{Point}
use Rattle.lvl_grid.specs.declared.point.Square.{Square}
use Rattle.lvl_grid.specs.Turn.{image, image_square}
use Rattle.lvl_grid.specs.Winding.{winding, rectangle_between}

abbrev point : ℕ → ℕ → Point
point x y = record { x = pos x; y = pos y }

abbrev square : ℕ → ℕ → Square
square x y = record { x = pos x; y = pos y }

-- from (0, 0) to (4, 2), counterclockwise
abbrev bar : List Point
bar = rectangle_between (point 0 0) (point 4 2)

-- the same, clockwise
abbrev back : List Point
back = point 0 0 ∷ point 0 2 ∷ point 4 2 ∷ point 4 0 ∷ []

-- a ring that crosses itself: 4 by 4, and from its corner on another 2 by 2 within it, the other way round
abbrev crossed : List Point
crossed =
    point 0 0 ∷ point 4 0 ∷ point 4 4 ∷ point 0 4 ∷ point 0 0 ∷ point 0 2 ∷ point 2 2 ∷ point 2 0 ∷ []

inside : winding bar (square 3 1) ≡ pos 1
inside = refl

-- a square at the right border isn't covered, one at the left border is
right_border : winding bar (square 4 1) ≡ pos 0
right_border = refl

left_border : winding bar (square 0 0) ≡ pos 1
left_border = refl

above : winding bar (square 3 2) ≡ pos 0
above = refl

clockwise : winding back (square 3 1) ≡ negsuc 0
clockwise = refl

twice : winding (bar ++ bar) (square 3 1) ≡ pos 2
twice = refl

-- where both turns of a ring that crosses itself meet they cancel
cancelled : winding crossed (square 1 1) ≡ pos 0
cancelled = refl

once : winding crossed (square 1 3) ≡ pos 1
once = refl

-- reflected about the X axis, turned by 90 degrees, and moved by (10, 20)
abbrev placed : Map
placed = record { flip = true; turn = R90; at = point 10 20 }

point_placed : image placed (point 1 2) ≡ point 12 21
point_placed = refl

square_placed : image_square placed (square 1 2) ≡ square 12 21
square_placed = refl

turned_by_180 : image (record { flip = false; turn = R180; at = point 0 0 }) (point 1 2) ≡ record { x = negsuc 0; y = negsuc 1 }
turned_by_180 = refl

turned_by_270 : image (record { flip = false; turn = R270; at = point 0 5 }) (point 1 2) ≡ point 2 4
turned_by_270 = refl

only_moved : image_square (record { flip = false; turn = R0; at = point 3 4 }) (square 1 2) ≡ square 4 6
only_moved = refl
