-- Points and rings that are moved, and comparisons of points.
use Rattle.std.proofs.Common.{◌≡◌, ◌≢◌, ◌<◌, ◌+◌, ℕ, get_or, slice_get, List, [], ◌∷◌, ◌++◌, take, drop, map, length}
use Rattle.std.proofs.Common.{inl, inr, Any, ◌↔◌, refl, sym, ap, subst, ◌∙◌, ◌+ℤ◌, pos, Bool, true, false, not, ◌&&◌}
use Rattle.std.proofs.Common.{ℤ, negsuc, ◌≤ℤ◌, Option, Some, None, SomeIff, All, arith}
use Rattle.std.specs.Int.{w64}
use Rattle.std.specs.Prelude.{FitsSigned}
use Rattle.std.specs.Option.{option_map}
use Rattle.std.specs.Ordering.{int_eq}
use Rattle.std.proofs.Math.IntN.{+ℤ_idr}
use Rattle.std.proofs.lemmas.Bool.{false≢true}
use Rattle.std.proofs.lemmas.Bool.Decides.{Decides-int_eq}
use Rattle.std.proofs.lemmas.List.{drop-map, get_or-map, length-map, map_more, take-map, take_more}
use Rattle.std.proofs.lemmas.List.Elements.{All-get_or, All-head, All-map, All-push, All-weaker}
use Rattle.std.proofs.lemmas.Option.{slice_get-map, slice_get_within, get_or_from_slice_get}
use Rattle.lvl_grid.specs.declared.point.Point.{Point}
use Rattle.lvl_grid.specs.Turn.{FitsPoint, shifted}
use Rattle.std.proofs.lemmas.Int.{ints}
use Rattle.lvl_grid.specs.declared.map.Map.{Map}
use Rattle.lvl_grid.specs.Turn.{image}
use Rattle.lvl_grid.specs.Placed.{placed_point}
use Rattle.lvl_grid.proofs.Anyone.{Any-map, Any-same}
use Rattle.lvl_grid.proofs.Composing.{same_point}
use Rattle.lvl_grid.specs.Winding.{IsRing, IsStraight}
use Rattle.lvl_grid.proofs.Placing.{straight_ring}
use Rattle.lvl_names.specs.Shifts.{IsBetween}
use Rattle.lvl_cells.specs.Cells.{Rings}
use Rattle.lvl_cells.specs.inside.Spans.{origin, FitsMoved, IsMovable, IsAgain}

moved_straight : (by p q : Point) → IsStraight (p, q) → IsStraight (shifted by p, shifted by q)
moved_straight by p q (inl e) = inl (ap (λ z. z +ℤ by.x) e)
moved_straight by p q (inr e) = inr (ap (λ z. z +ℤ by.y) e)

-- a ring, moved, is a ring
pub IsRing-moved : (by : Point) (ps : List Point) → IsRing ps → IsRing (map (shifted by) ps)
IsRing-moved by ps h = record {
  enough = rw length-map h.enough;
  straight = straight_ring (shifted by) (moved_straight by) ps h.straight;
}

pub movable : (by : Point) (ring : List Point) → IsRing ring → FitsMoved by (map (shifted by) ring ∷ [])
    → IsMovable by ring
movable by ring is (inl none) = record { ring = is; fits = inl none }
movable by ring is (inr fit) = record {
  ring = is;
  fits = inr (All-head (All FitsPoint) (map (shifted by) ring) [] fit);
}

-- a point that isn't moved
pub unmoved_point : (p : Point) → shifted origin p ≡ p
unmoved_point p =
    ap (λ x. let q : Point = record { x = x; y = p.y +ℤ pos 0 } in q) (+ℤ_idr p.x)
    ∙ ap (λ y. let q : Point = record { x = p.x; y = y } in q) (+ℤ_idr p.y)

pub unmoved_ring : (ring : List Point) → map (shifted origin) ring ≡ ring
unmoved_ring [] = refl
unmoved_ring (p ∷ ps) = rw (unmoved_point p, unmoved_ring ps) refl

pub unmoved_rings : (rings : Rings) → map (map (shifted origin)) rings ≡ rings
unmoved_rings [] = refl
unmoved_rings (r ∷ rs) = rw (unmoved_ring r, unmoved_rings rs) refl

both_true : (a b : Bool) → true ≡ (a && b) → (a ≡ true) × (b ≡ true)
both_true true true e = (refl, refl)
both_true true false e = cc
both_true false b e = cc

-- if the comparison says that two points are equal, they are
pub points_same : (p q : Point) → true ≡ (int_eq p.x q.x && int_eq p.y q.y) → p ≡ q
points_same p q e =
    let both = both_true (int_eq p.x q.x) (int_eq p.y q.y) e in
    let x : p.x ≡ q.x = (Decides-int_eq p.x q.x).0 both.0 in
    let y : p.y ≡ q.y = (Decides-int_eq p.y q.y).0 both.1 in
    ap (λ a. let r : Point = record { x = a; y = p.y } in r) x
    ∙ ap (λ b. let r : Point = record { x = q.x; y = b } in r) y

not_false : (b : Bool) → false ≡ not b → true ≡ b
not_false true e = refl
not_false false e = cc

pub not_apart : (p q : Point) → false ≡ not (int_eq p.x q.x && int_eq p.y q.y) → p ≡ q
not_apart p q e = points_same p q (not_false (int_eq p.x q.x && int_eq p.y q.y) e)

-- and if it says that they differ, they do
pub points_apart : (p q : Point) → false ≡ (int_eq p.x q.x && int_eq p.y q.y) → p ≢ q
points_apart p q e same =
    let x : int_eq p.x q.x ≡ true = (Decides-int_eq p.x q.x).1 (ap (λ (r : Point). r.x) same) in
    let y : int_eq p.y q.y ≡ true = (Decides-int_eq p.y q.y).1 (ap (λ (r : Point). r.y) same) in
    false≢true (e ∙ (ap (λ b. b && int_eq p.y q.y) x ∙ y))

pub some_where_it_holds : {T : Type 0} (o : Option T) (P : Type 0) (v : T) → SomeIff o P v → P → o ≡ Some v
some_where_it_holds None P v h p = absurd (h p)
some_where_it_holds (Some x) P v h p = ap Some h.1

-- one more point of a ring that is another, moved
pub again_more : (kept : List Point) (by : Point) (ring : List Point) (k : ℕ) (p : Point) → k < length kept
    → k < length ring → IsAgain (take k kept) by (take k ring) → FitsPoint p → p ≡ shifted by (get_or kept k p)
    → p ≡ get_or ring k p → IsAgain (take (k + 1) kept) by (take (k + 1) ring)
again_more kept by ring k p h l so_far fits moved same = record {
  is = map_more (shifted by) kept k p h
      ∙ (ap (λ qs. qs ++ shifted by (get_or kept k p) ∷ []) so_far.is
      ∙ (ap (λ q. take k ring ++ q ∷ []) (sym moved ∙ same) ∙ sym (take_more ring k p l)));
  fits = rw (take_more ring k p l, sym same) (All-push FitsPoint (take k ring) p so_far.fits fits);
}

-- a point of a ring that is moved
pub kept_point : (points : List Point) (k : ℕ) (by p : Point) → slice_get points k ≡ Some p
    → slice_get (map (shifted by) points) k ≡ Some (shifted by p)
kept_point points k by p is = slice_get-map (shifted by) points k ∙ ap (option_map (shifted by)) is

-- if all of its points fit, each does
pub point_fits : (points : List Point) (k : ℕ) (by p : Point) → slice_get points k ≡ Some p
    → All FitsPoint (map (shifted by) points) → FitsPoint (shifted by p)
point_fits points k by p is all =
    let low : k < length points = slice_get_within points k p is in
    subst FitsPoint (get_or-map (shifted by) points k p p low ∙ ap (shifted by) (get_or_from_slice_get points k p p is))
    (All-get_or FitsPoint (map (shifted by) points) k p (rw length-map low) all)

-- one more point of a list
pub next_item : {X : Type 0} (xs : List X) (k : ℕ) (x : X) → slice_get xs k ≡ Some x
    → take (k + 1) xs ≡ take k xs ++ x ∷ []
next_item xs k x e =
    take_more xs k x (slice_get_within xs k x e) ∙ ap (λ y. take k xs ++ y ∷ []) (get_or_from_slice_get xs k x x e)

-- a displacement, and then another
move_twice : (by d p : Point) → shifted (shifted by d) p ≡ shifted d (shifted by p)
move_twice by d p = same_point _ _ (omega (arith, ints)) (omega (arith, ints))

pub placed_twice : (m : Map) (by d : Point) (ps : List Point)
    → map (placed_point m (shifted by d)) ps ≡ map (placed_point m d) (map (shifted by) ps)
placed_twice m by d [] = refl
placed_twice m by d (p ∷ ps) = rw (ap (image m) (move_twice by d p), placed_twice m by d ps) refl

pub fits_twice : (m : Map) (by d : Point) (ps : List Point)
    → All (λ v. FitsPoint (placed_point m (shifted by d) v)) ps
    → All (λ v. FitsPoint (placed_point m d v)) (map (shifted by) ps)
fits_twice m by d ps h =
    All-map (λ v. FitsPoint (placed_point m d v)) (shifted by) ps
    (All-weaker {X = Point} (λ v. FitsPoint (placed_point m (shifted by d) v))
    (λ v. FitsPoint (placed_point m d (shifted by v)))
    (λ v f. subst (λ q. FitsPoint (image m q)) (move_twice by d v) f) ps h)

pub leaves_twice : (m : Map) (by d : Point) (ps : List Point)
    → Any (λ v. ¬ FitsPoint (placed_point m (shifted by d) v)) ps
    → Any (λ v. ¬ FitsPoint (placed_point m d v)) (map (shifted by) ps)
leaves_twice m by d ps h =
    (Any-map (λ v. ¬ FitsPoint (placed_point m d v)) (shifted by) ps).1
    ((Any-same {X = Point} (λ v. ¬ FitsPoint (placed_point m (shifted by d) v))
    (λ v. ¬ FitsPoint (placed_point m d (shifted by v))) ps
    (λ v.
    subst (λ q. (¬ FitsPoint (placed_point m (shifted by d) v)) ↔ (¬ FitsPoint (image m q))) (move_twice by d v)
    (λ f. f, λ f. f))).0 h)

-- a point between two corners, after all three are moved
pub between_moved : (by low high p : Point) → IsBetween low high p
    → IsBetween (shifted by low) (shifted by high) (shifted by p)
between_moved by low high p w = record {
  left = let l = w.left in omega (arith, ints, l);
  right = let l = w.right in omega (arith, ints, l);
  below = let l = w.below in omega (arith, ints, l);
  above = let l = w.above in omega (arith, ints, l);
}

fits_amid : (a b z : ℤ) → FitsSigned w64 a → FitsSigned w64 b → a ≤ℤ z → z ≤ℤ b → FitsSigned w64 z
fits_amid a (pos m) (pos n) f g low high = record { sfits = omega (arith, ints, g.sfits, high) }
fits_amid a (negsuc m) (pos n) f g low high = record { sfits = omega (arith, ints, high) }
fits_amid (pos m) b (negsuc n) f g low high = record { sfits = omega (arith, ints, low) }
fits_amid (negsuc m) b (negsuc n) f g low high = record { sfits = omega (arith, ints, f.sfits, low) }

-- a point between two points that fit
fits_between : (low high p : Point) → FitsPoint low → FitsPoint high → IsBetween low high p → FitsPoint p
fits_between low high p f g w = record {
  x_fits = fits_amid low.x high.x p.x f.x_fits g.x_fits w.left w.right;
  y_fits = fits_amid low.y high.y p.y f.y_fits g.y_fits w.below w.above;
}

-- if two corners fit after they are moved, all points between them do
pub all_fit_between : (by low high : Point) (ps : List Point) → All (IsBetween low high) ps → FitsPoint (shifted by low)
    → FitsPoint (shifted by high) → All FitsPoint (map (shifted by) ps)
all_fit_between by low high ps all f g =
    All-map FitsPoint (shifted by) ps
    (All-weaker (IsBetween low high) (λ p. FitsPoint (shifted by p))
    (λ p w. fits_between (shifted by low) (shifted by high) (shifted by p) f g (between_moved by low high p w)) ps all)

-- points that are moved twice
pub moved_twice : (by d : Point) (ps : List Point)
    → map (shifted by) (map (shifted d) ps) ≡ map (shifted (shifted by d)) ps
moved_twice by d [] = refl
moved_twice by d (p ∷ ps) =
    rw (
      same_point (shifted by (shifted d p)) (shifted (shifted by d) p) (omega (arith, ints)) (omega (arith, ints)),
      moved_twice by d ps,
    ) refl

-- some of the points, moved
part_moved : (by : Point) (ps : List Point) (from count : ℕ)
    → map (shifted by) (take count (drop from ps)) ≡ take count (drop from (map (shifted by) ps))
part_moved by ps from count = rw (drop-map (shifted by) from ps, take-map (shifted by) count) refl

-- parts of two moved lists are the same if the one, moved by the difference of both displacements, is the other
pub same_parts : (by e d : Point) (xs ys part other : List Point) (from at count : ℕ)
    → shifted e d ≡ by → part ≡ take count (drop from xs) → other ≡ take count (drop at ys)
    → map (shifted d) part ≡ other
    → take count (drop from (map (shifted by) xs)) ≡ take count (drop at (map (shifted e) ys))
same_parts by e d xs ys part other from at count sum ours theirs again =
    sym (part_moved by xs from count)
    ∙ (ap (map (shifted by)) (sym ours)
    ∙ (ap (λ b. map (shifted b) part) (sym sum)
    ∙ (sym (moved_twice e d part)
    ∙ (ap (map (shifted e)) (again ∙ theirs) ∙ part_moved e ys at count))))
