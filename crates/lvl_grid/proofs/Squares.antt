-- Images of squares: they compose as images of points do, and each square is the image of one square.
use Rattle.std.proofs.Common.{◌≡◌, Bool, true, false, ℤ, pos, ◌+ℤ◌, neg_ℤ, refl, arith, ap, sym, ◌∙◌}
use Rattle.std.proofs.lemmas.Int.{ints, clamps}
use Rattle.lvl_grid.specs.declared.point.Point.{Point}
use Rattle.lvl_grid.specs.declared.point.Square.{Square}
use Rattle.lvl_grid.specs.declared.map.Map.{Map}
use Rattle.lvl_grid.specs.declared.map.Turn.{Turn}
use Rattle.lvl_grid.specs.declared.map.Turn.TheVariants.{R0, R90, R180, R270}
use Rattle.lvl_grid.specs.Turn.{turned, reflected, shifted, image, image_square, mirrored}
use Rattle.lvl_grid.specs.Placed.{moved_square}
use Rattle.lvl_grid.proofs.Composing.{same_point, turned_shifted, reflected_shifted, shifted_twice}
use Rattle.lvl_grid.proofs.Placing.{turn_square, reflect_square, square_steps}
use Rattle.lvl_grid.proofs.Paths.{origin}

-- squares with equal coordinates are equal
pub same_square : (s t : Square) → s.x ≡ t.x → s.y ≡ t.y → s ≡ t
same_square s t e f =
    let at : (x y : ℤ) → Square = λ x y. record { x = x; y = y } in ap (λ x. at x s.y) e ∙ ap (at t.x) f

-- the middle of a square, in half steps
abbrev middle : Square → Point
middle s = record { x = s.x +ℤ s.x +ℤ pos 1; y = s.y +ℤ s.y +ℤ pos 1 }

half : (a b : ℤ) → a +ℤ a +ℤ pos 1 ≡ b +ℤ b +ℤ pos 1 → a ≡ b
half a b e = omega (arith, ints)

middle_reports : (s t : Square) → middle s ≡ middle t → s ≡ t
middle_reports s t e =
    same_square s t (half s.x t.x (ap (λ (p : Point). p.x) e)) (half s.y t.y (ap (λ (p : Point). p.y) e))

-- a map takes middles to middles if its shift is counted in half steps too
middle_steps : (t : Turn) (f : Bool) (d : Point) (s : Square)
    → middle (image_square (record { flip = f; turn = t; at = d }) s)
    ≡ shifted d (image (record { flip = f; turn = t; at = d }) (middle s))
middle_steps R0 true d s = same_point _ _ (omega (arith, ints, clamps)) (omega (arith, ints, clamps))
middle_steps R0 false d s = same_point _ _ (omega (arith, ints, clamps)) (omega (arith, ints, clamps))
middle_steps R90 true d s = same_point _ _ (omega (arith, ints, clamps)) (omega (arith, ints, clamps))
middle_steps R90 false d s = same_point _ _ (omega (arith, ints, clamps)) (omega (arith, ints, clamps))
middle_steps R180 true d s = same_point _ _ (omega (arith, ints, clamps)) (omega (arith, ints, clamps))
middle_steps R180 false d s = same_point _ _ (omega (arith, ints, clamps)) (omega (arith, ints, clamps))
middle_steps R270 true d s = same_point _ _ (omega (arith, ints, clamps)) (omega (arith, ints, clamps))
middle_steps R270 false d s = same_point _ _ (omega (arith, ints, clamps)) (omega (arith, ints, clamps))

middle-image : (m : Map) (s : Square) → middle (image_square m s) ≡ shifted m.at (image m (middle s))
middle-image m s = middle_steps m.turn m.flip m.at s

-- the map without its shift
abbrev turned_only : Map → Point → Point
turned_only m p = turned m.turn (reflected m.flip p)

image-shifted : (m : Map) (d p : Point) → image m (shifted d p) ≡ shifted (turned_only m d) (image m p)
image-shifted m d p =
    rw (reflected_shifted m.flip d p, turned_shifted m.turn (reflected m.flip d) (reflected m.flip p))
    (same_point _ _ (omega (arith, ints)) (omega (arith, ints)))

zero_plus : (a : ℤ) → pos 0 +ℤ a ≡ a
zero_plus a = omega (arith, ints)

origin_stays : (t : Turn) (f : Bool) → turned t (reflected f origin) ≡ origin
origin_stays R0 true = refl
origin_stays R0 false = refl
origin_stays R90 true = refl
origin_stays R90 false = refl
origin_stays R180 true = refl
origin_stays R180 false = refl
origin_stays R270 true = refl
origin_stays R270 false = refl

pub image_of_origin : (m : Map) → image m origin ≡ m.at
image_of_origin m =
    ap (shifted m.at) (origin_stays m.turn m.flip) ∙ same_point _ _ (zero_plus m.at.x) (zero_plus m.at.y)

-- a map that is a composition on points is the same composition on squares
pub image_square-composed : (m n w : Map) → ((p : Point) → image w p ≡ image m (image n p)) → (s : Square)
    → image_square w s ≡ image_square m (image_square n s)
image_square-composed m n w each s =
    let p : Point = middle s in
    let at : w.at ≡ shifted m.at (turned_only m n.at) =
    sym (image_of_origin w) ∙ (each origin ∙ ap (image m) (image_of_origin n)) in
    let left : middle (image_square w s) ≡ shifted (shifted m.at (turned_only m n.at)) (image m (image n p)) =
    middle-image w s ∙ (ap (shifted w.at) (each p) ∙ ap (λ d. shifted d (image m (image n p))) at) in
    let right : middle (image_square m (image_square n s))
    ≡ shifted m.at (shifted (turned_only m n.at) (image m (image n p))) =
    middle-image m (image_square n s)
    ∙ ap (shifted m.at) (ap (image m) (middle-image n s) ∙ image-shifted m n.at (image n p)) in
    middle_reports _ _ (left ∙ (sym (shifted_twice m.at (turned_only m n.at) (image m (image n p))) ∙ sym right))

-- the square whose image is t
abbrev pub unplaced : Map → Square → Square
unplaced m t =
    reflect_square m.flip
    (turn_square (mirrored true m.turn) (moved_square (record { x = neg_ℤ m.at.x; y = neg_ℤ m.at.y }) t))

turn_back : (t : Turn) (s : Square) → turn_square t (turn_square (mirrored true t) s) ≡ s
turn_back R0 s = refl
turn_back R90 s = same_square _ _ (omega (arith, ints)) (omega (arith, ints))
turn_back R180 s = same_square _ _ (omega (arith, ints)) (omega (arith, ints))
turn_back R270 s = same_square _ _ (omega (arith, ints)) (omega (arith, ints))

reflect_back : (f : Bool) (s : Square) → reflect_square f (reflect_square f s) ≡ s
reflect_back true s = same_square _ _ refl (omega (arith, ints))
reflect_back false s = refl

pub image-unplaced : (m : Map) (t : Square) → image_square m (unplaced m t) ≡ t
image-unplaced m t =
    let back : Square = moved_square (record { x = neg_ℤ m.at.x; y = neg_ℤ m.at.y }) t in
    square_steps m.turn m.flip m.at (unplaced m t)
    ∙ rw (reflect_back m.flip (turn_square (mirrored true m.turn) back), turn_back m.turn back)
    (same_square _ _ (omega (arith, ints)) (omega (arith, ints)))
