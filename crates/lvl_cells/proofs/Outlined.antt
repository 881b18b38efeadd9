-- Kept rings: what a stretch of points means, and a list of rings after one more is kept.
use Rattle.std.proofs.Common.{◌≡◌, ◌≤◌, ◌<◌, ◌-◌, ◌+◌, ◌*◌, ℕ, Bool, true, false, List, [], ◌∷◌, ◌++◌, take, drop, map}
use Rattle.std.proofs.Common.{not, inl, inr, FitsSigned, IsTrue, w64}
use Rattle.std.proofs.Common.{rules, length, get_or, All, refl, sym, ap, arith, subst, ◌∙◌}
use Rattle.std.proofs.lemmas.Bool.{cases_lt}
use Rattle.std.proofs.lemmas.Int.{ints}
use Rattle.std.proofs.lemmas.List.{append_assoc, drop_at, get_or-append_right, get_or-drop, get_or-take}
use Rattle.std.proofs.lemmas.List.{get_or_append_left, length-append, map-append, take_all}
use Rattle.std.proofs.lemmas.List.Elements.{All-cons, All-head, All-push, All-tail, All-weaker}
use Rattle.lvl_grid.specs.declared.point.Point.{Point}
use Rattle.lvl_grid.specs.Turn.{FitsPoint, shifted}
use Rattle.lvl_grid.specs.Winding.{IsRing}
use Rattle.lvl_grid.proofs.Composing.{same_point}
use Rattle.lvl_cells.specs.declared.outlines.OutlineSpan.{OutlineSpan}
use Rattle.lvl_cells.specs.Cells.{Rings}
use Rattle.lvl_cells.specs.inside.Outlines.{beside, on_x, on_y, outline, outline_in, rectangle_to}
use Rattle.lvl_cells.specs.Stretches.{stretch_at}
use Rattle.lvl_cells.specs.inside.Outlines.{stretch_in, AddsStretches, AreStretches, HasCornersBefore, IsAround}
use Rattle.lvl_cells.specs.inside.Outlines.{IsKept, IsOutline}
use Rattle.lvl_cells.specs.inside.Spans.{origin, IsAgain, IsPrefixOf}
use Rattle.lvl_names.specs.Shifts.{IsBetween}
use Rattle.lvl_cells.proofs.Spanned.{grown, stretch_same, no_fewer, goes_on_more}

-- a rectangle is a ring
pub rectangle_ring : (d : Point) (along_y : Bool) → IsRing (rectangle_to d along_y)
rectangle_ring d true = record { enough = omega arith; straight = search rules }
rectangle_ring d false = record { enough = omega arith; straight = search rules }

-- the points of a ring, which are more than one, mean the ring
pub outline_points : (ring : List Point) (along_y : Bool) → IsRing ring → outline ring along_y ≡ ring
outline_points [] along_y h = refl
outline_points (p ∷ []) along_y h = absurd (omega (arith, h.enough))
outline_points (p ∷ q ∷ ps) along_y h = refl

-- the points that are appended are a stretch
pub stretch_appended : (points more : List Point) (begin end : ℕ) → begin ≡ length points
    → end ≡ length points + length more → stretch_in (points ++ more) begin end ≡ more
stretch_appended points more begin end b e =
    let all : length more ≤ end - begin = omega (arith, b, e) in
    ap (take (end - begin)) (drop_at points more begin (sym b)) ∙ take_all (end - begin) more all

-- a ring means the same after more points are kept
pub outline_same : (points points' : List Point) (s : OutlineSpan) → IsPrefixOf points points' → IsOutline points s
    → outline_in points' s ≡ outline_in points s
outline_same points points' s on h =
    ap (λ ps. outline ps s.along_y) (stretch_same points points' s.begin s.end on h.order h.inside)

-- the corners before an index are the same after more points are kept
pub before_still : (points points' : List Point) (n : ℕ) (ring : List Point) → IsPrefixOf points points'
    → n ≤ length points → HasCornersBefore points n ring → HasCornersBefore points' n ring
before_still points points' n ring on low h =
    let more = drop (length points) points' in
    let all : points' ≡ points ++ more = grown points points' on in
    let two : 2 ≤ n = h.two in
    let same : (k : ℕ) → k < n → get_or points' k origin ≡ get_or points k origin =
    λ k lt. ap (λ ps. get_or ps k origin) all ∙ get_or_append_left points more origin k (omega (arith, lt, low)) in
    record {
      two = two;
      around = rw (same (n - 2) (omega (arith, two)), same (n - 1) (omega (arith, two))) h.around;
    }

-- and so are the corners of stretches
pub stretches_still : (points points' : List Point) (from count : ℕ) (ring : List Point) → IsPrefixOf points points'
    → from + 2 * count ≤ length points → AreStretches points from count ring → AreStretches points' from count ring
stretches_still points points' from count ring on room h =
    let more = drop (length points) points' in
    let all : points' ≡ points ++ more = grown points points' on in
    let same : (k : ℕ) → k < length points → get_or points' k origin ≡ get_or points k origin =
    λ k lt. ap (λ ps. get_or ps k origin) all ∙ get_or_append_left points more origin k lt in
    λ k lt.
    rw (same (from + 2 * k) (omega (arith, lt, room)), same (from + 2 * k + 1) (omega (arith, lt, room))) (h k lt)

-- the corners of one stretch more
pub stretch_added : (points points' : List Point) (count : ℕ) (ring : List Point) (low high : Point)
    → AddsStretches points points' count ring → All (IsBetween low high) (stretch_at ring count)
    → AddsStretches points (points' ++ low ∷ high ∷ []) (count + 1) ring
stretch_added points points' count ring low high h all =
    let more : List Point = low ∷ high ∷ [] in
    let from : ℕ = length points in
    let first : from + 2 * count - length points' ≡ 0 = omega (arith, h.size) in
    let second : from + 2 * count + 1 - length points' ≡ 1 = omega (arith, h.size) in
    let is_low : get_or (points' ++ more) (from + 2 * count) origin ≡ low =
    get_or-append_right points' more (length points') (from + 2 * count) origin refl (omega (arith, h.size))
    ∙ ap (λ i. get_or more i origin) first in
    let is_high : get_or (points' ++ more) (from + 2 * count + 1) origin ≡ high =
    get_or-append_right points' more (length points') (from + 2 * count + 1) origin refl (omega (arith, h.size))
    ∙ ap (λ i. get_or more i origin) second in
    record {
      size = omega (arith, h.size, length-append points' more);
      are = λ k lt.
          elim (cases_lt k count) [
            | inl below ↦
                stretches_still points' (points' ++ more) from count ring (goes_on_more points' more)
                (omega (arith, h.size)) h.are k below
            | inr past ↦
                let last : count ≡ k = omega (arith, lt, past) in
                subst (λ i. IsAround (points' ++ more) (from + 2 * i) ring i) last (rw (is_low, is_high) all)
          ];
    }

-- they are the same in the part of the points that has them alone
pub stretches_in : (points : List Point) (from count begin : ℕ) (ring : List Point) → from + 2 * count ≡ begin
    → AreStretches points from count ring → AreStretches (stretch_in points from begin) 0 count ring
stretches_in points from count begin ring size h = λ k lt.
    let at : (i : ℕ) → i < 2 * count
    → get_or (stretch_in points from begin) i origin ≡ get_or points (from + i) origin =
    λ i low.
    get_or-take (begin - from) (drop from points) i origin (omega (arith, size, low))
    ∙ get_or-drop from points i origin in
    let none : 0 + 2 * k ≡ 2 * k = omega arith in
    let next : from + (2 * k + 1) ≡ from + 2 * k + 1 = omega arith in
    let one : get_or (stretch_in points from begin) (0 + 2 * k) origin ≡ get_or points (from + 2 * k) origin =
    ap (λ i. get_or (stretch_in points from begin) i origin) none ∙ at (2 * k) (omega (arith, lt)) in
    let two : get_or (stretch_in points from begin) (0 + 2 * k + 1) origin ≡ get_or points (from + 2 * k + 1) origin =
    ap (λ i. get_or (stretch_in points from begin) (i + 1) origin) none
    ∙ (at (2 * k + 1) (omega (arith, lt)) ∙ ap (λ i. get_or points i origin) next) in
    rw (one, two) (h k lt)

outline_still : (points points' : List Point) (s : OutlineSpan) → IsPrefixOf points points' → IsOutline points s
    → IsOutline points' s
outline_still points points' s on h =
    let same : outline_in points' s ≡ outline_in points s = outline_same points points' s on h in
    record {
      order = h.order;
      inside = omega (arith, h.inside, no_fewer points points' on);
      ring = subst IsRing (sym same) h.ring;
      room = h.room;
      stretches =
          subst (AreStretches points' (s.begin - 2 * s.stretches) s.stretches) (sym same)
          (stretches_still points points' (s.begin - 2 * s.stretches) s.stretches (outline_in points s) on
          (omega (arith, h.order, h.inside, h.room)) h.stretches);
      reach = λ has.
          subst (HasCornersBefore points' (s.begin - 2 * s.stretches)) (sym same)
          (before_still points points' (s.begin - 2 * s.stretches) (outline_in points s) on
          (omega (arith, h.order, h.inside)) (h.reach has));
    }

-- the spans stay valid after more points are kept
pub still : (points points' : List Point) (spans : List OutlineSpan) → IsPrefixOf points points'
    → All (IsOutline points) spans → All (IsOutline points') spans
still points points' spans on h =
    All-weaker {X = OutlineSpan} (IsOutline points) (IsOutline points') (λ s is. outline_still points points' s on is)
    spans h

-- the rings stay the same after more points are kept
pub rings_same : (points points' : List Point) (spans : List OutlineSpan) → IsPrefixOf points points'
    → All (IsOutline points) spans → map (outline_in points') spans ≡ map (outline_in points) spans
rings_same points points' [] on h = refl
rings_same points points' (s ∷ spans) on h =
    rw (
      outline_same points points' s on (All-head (IsOutline points) s spans h),
      rings_same points points' spans on (All-tail (IsOutline points) s spans h),
    ) refl

-- one more ring
pub record IsPushed (points : List Point) (spans : List OutlineSpan) (s : OutlineSpan) (rings : Rings)
    (ring : List Point) : Type 0 where
  pub are : All (IsOutline points) (spans ++ s ∷ [])
  pub is : map (outline_in points) (spans ++ s ∷ []) ≡ rings ++ ring ∷ []

pub pushed : (points points' : List Point) (spans : List OutlineSpan) (s : OutlineSpan) (rings : Rings)
    (ring : List Point) → IsPrefixOf points points' → All (IsOutline points) spans
    → map (outline_in points) spans ≡ rings → IsKept points' s ring → IsPushed points' spans s rings ring
pushed points points' spans s rings ring on h e kept = record {
  are = All-push (IsOutline points') spans s (still points points' spans on h) kept.valid;
  is =
      map-append (outline_in points') spans (s ∷ [])
      ∙ (ap (λ rs. rs ++ outline_in points' s ∷ []) (rings_same points points' spans on h ∙ e)
      ∙ ap (λ r. rings ++ r ∷ []) kept.is);
}

-- the corners of a ring and of its stretches that a span says to be the last points
pub record HasLastCorners (points : List Point) (s : OutlineSpan) (ring : List Point) : Type 0 where
  pub room : 2 * s.stretches ≤ length points
  pub stretches : AreStretches points (length points - 2 * s.stretches) s.stretches ring
  pub reach : IsTrue s.has_reach → HasCornersBefore points (length points - 2 * s.stretches) ring

-- the points that are appended after their corners are kept
pub appended : (points more : List Point) (s : OutlineSpan) (ring : List Point) → s.begin ≡ length points
    → s.end ≡ length points + length more → outline more s.along_y ≡ ring → IsRing ring
    → HasLastCorners points s ring → IsKept (points ++ more) s ring
appended points more s ring b d is good last =
    let on : IsPrefixOf points (points ++ more) = goes_on_more points more in
    let from : ℕ = length points - 2 * s.stretches in
    let room : 2 * s.stretches ≤ length points = last.room in
    let means : outline_in (points ++ more) s ≡ ring =
    ap (λ ps. outline ps s.along_y) (stretch_appended points more s.begin s.end b d) ∙ is in
    record {
      valid = record {
        order = omega (arith, b, d);
        inside = omega (arith, d, length-append points more);
        ring = subst IsRing (sym means) good;
        room = rw b room;
        stretches =
            rw (means, b) (stretches_still points (points ++ more) from s.stretches ring on (omega (arith, room))
            last.stretches);
        reach = λ has.
            rw (means, b) (before_still points (points ++ more) from ring on (omega arith) (last.reach has));
      };
      is = means;
    }

-- what begins with a list and more begins with the list
pub goes_on_twice : {X : Type 0} (xs more ys : List X) → IsPrefixOf (xs ++ more) ys → IsPrefixOf xs ys
goes_on_twice xs more ys h =
    let rest = drop (length (xs ++ more)) ys in
    let all : ys ≡ xs ++ (more ++ rest) = grown (xs ++ more) ys h ∙ append_assoc xs more rest in
    subst (IsPrefixOf xs) (sym all) (goes_on_more xs (more ++ rest))

-- a beginning of a beginning
pub goes_on_through : {X : Type 0} (xs ys zs : List X) → IsPrefixOf xs ys → IsPrefixOf ys zs → IsPrefixOf xs zs
goes_on_through xs ys zs h g =
    goes_on_twice xs (drop (length xs) ys) zs (subst (λ (l : List _). IsPrefixOf l zs) (grown xs ys h) g)

-- a predicate of four points
all_of_four : (P : Point → Type 0) (p q r t : Point) → P p → P q → P r → P t → All P (p ∷ q ∷ r ∷ t ∷ [])
all_of_four P p q r t a b c d =
    All-cons P p (q ∷ r ∷ t ∷ []) a
    (All-cons P q (r ∷ t ∷ []) b (All-cons P r (t ∷ []) c
    (All-cons P t [] d (λ k e none. absurd (omega (arith, none))))))

-- what has the origin and a point between its corners has the rectangle from the one to the other
pub between_corners : (low high d : Point) (along_y : Bool) → IsBetween low high origin → IsBetween low high d
    → All (IsBetween low high) (rectangle_to d along_y)
between_corners low high d true o p =
    all_of_four (IsBetween low high) origin (on_y d) d (on_x d) o
    (record { left = o.left; right = o.right; below = p.below; above = p.above }) p
    (record { left = p.left; right = p.right; below = o.below; above = o.above })
between_corners low high d false o p =
    all_of_four (IsBetween low high) origin (on_x d) d (on_y d) o
    (record { left = p.left; right = p.right; below = o.below; above = o.above }) p
    (record { left = o.left; right = o.right; below = p.below; above = p.above })

-- one point means a rectangle
pub outline_one : (points : List Point) (along_y : Bool) (d : Point) → length points ≡ 1
    → outline points along_y ≡ rectangle_to (get_or points 0 d) along_y
outline_one [] along_y d h = absurd (omega (arith, h))
outline_one (p ∷ []) along_y d h = refl
outline_one (p ∷ q ∷ ps) along_y d h = absurd (omega (arith, h))

at_origin : (from : Point) → shifted from origin ≡ from
at_origin from = same_point _ _ (omega (arith, ints)) (omega (arith, ints))

x_same : (p q : Point) → p ≡ q → p.x ≡ q.x
x_same p q e = ap (λ (s : Point). s.x) e

y_same : (p q : Point) → p ≡ q → p.y ≡ q.y
y_same p q e = ap (λ (s : Point). s.y) e

-- a point with the abscissa of one that fits and the ordinate of another
fits_beside : (p q r : Point) → q.x ≡ p.x → r.y ≡ p.y → FitsPoint q → FitsPoint r → FitsPoint p
fits_beside p q r x y fit fit' = record {
  x_fits = subst (FitsSigned w64) x fit.x_fits;
  y_fits = subst (FitsSigned w64) y fit'.y_fits;
}

-- four points are the rectangle from the first to the third if the others are the corners beside the first
corners_again : (p q r t d : Point) (along_y : Bool) → shifted p d ≡ r → q ≡ beside p r along_y
    → t ≡ beside p r (not along_y) → FitsPoint q → FitsPoint t
    → IsAgain (rectangle_to d along_y) p (p ∷ q ∷ r ∷ t ∷ [])
corners_again p q r t d true to e f fit fit' =
    let y : shifted p (on_y d) ≡ q =
    same_point _ _ (omega (arith, ints, x_same _ _ e)) (y_same _ _ to ∙ sym (y_same _ _ e)) in
    let x : shifted p (on_x d) ≡ t =
    same_point _ _ (x_same _ _ to ∙ sym (x_same _ _ f)) (omega (arith, ints, y_same _ _ f)) in
    record {
      is = rw (at_origin p, y, to, x) refl;
      fits = all_of_four FitsPoint p q r t (fits_beside p q t (x_same _ _ e) (y_same _ _ f) fit fit') fit
          (fits_beside r t q (x_same _ _ f) (y_same _ _ e) fit' fit) fit';
    }
corners_again p q r t d false to e f fit fit' =
    let x : shifted p (on_x d) ≡ q =
    same_point _ _ (x_same _ _ to ∙ sym (x_same _ _ e)) (omega (arith, ints, y_same _ _ e)) in
    let y : shifted p (on_y d) ≡ t =
    same_point _ _ (omega (arith, ints, x_same _ _ f)) (y_same _ _ to ∙ sym (y_same _ _ f)) in
    record {
      is = rw (at_origin p, x, to, y) refl;
      fits = all_of_four FitsPoint p q r t (fits_beside p t q (x_same _ _ f) (y_same _ _ e) fit' fit) fit
          (fits_beside r q t (x_same _ _ e) (y_same _ _ f) fit fit') fit';
    }

-- and so is a ring of four points
pub rectangle_again : (ring : List Point) (z d : Point) (along_y : Bool) → length ring ≡ 4
    → shifted (get_or ring 0 z) d ≡ get_or ring 2 z
    → get_or ring 1 z ≡ beside (get_or ring 0 z) (get_or ring 2 z) along_y
    → get_or ring 3 z ≡ beside (get_or ring 0 z) (get_or ring 2 z) (not along_y)
    → FitsPoint (get_or ring 1 z) → FitsPoint (get_or ring 3 z)
    → IsAgain (rectangle_to d along_y) (get_or ring 0 z) ring
rectangle_again [] z d along_y n to e f fit fit' = absurd (omega (arith, n))
rectangle_again (p ∷ []) z d along_y n to e f fit fit' = absurd (omega (arith, n))
rectangle_again (p ∷ q ∷ []) z d along_y n to e f fit fit' = absurd (omega (arith, n))
rectangle_again (p ∷ q ∷ r ∷ []) z d along_y n to e f fit fit' = absurd (omega (arith, n))
rectangle_again (p ∷ q ∷ r ∷ t ∷ []) z d along_y n to e f fit fit' = corners_again p q r t d along_y to e f fit fit'
rectangle_again (p ∷ q ∷ r ∷ t ∷ u ∷ us) z d along_y n to e f fit fit' = absurd (omega (arith, n))
