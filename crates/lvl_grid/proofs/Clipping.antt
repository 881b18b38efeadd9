-- A ring whose points are clamped to a window winds round the window's squares as before, and round no other.
use Rattle.std.proofs.Common.{subst, ◌≡◌, Bool, true, false, List, [], ◌∷◌, map, ℤ, pos, ◌<ℤ◌, ◌≤ℤ◌, ℕ, refl, arith}
use Rattle.std.proofs.Common.{cond, sym, ap, ◌∙◌, ◌⊎◌, inl, inr, int_lt, int_le, count_by, All, ◌↔◌}
use Rattle.std.specs.Int.{int_max, int_min}
use Rattle.std.proofs.lemmas.Int.{ints, by_lt_z}
use Rattle.std.proofs.lemmas.List.{length-map}
use Rattle.std.proofs.lemmas.List.Elements.{All-head, All-tail, All-nil, All-cons, All-weaker}
use Rattle.lvl_grid.specs.declared.point.Point.{Point}
use Rattle.lvl_grid.specs.declared.point.Square.{Square}
use Rattle.lvl_grid.specs.declared.point.Window.{Window}
use Rattle.lvl_grid.specs.Winding.{last_or, path_edges, IsStraight, IsRing, goes_up, goes_down, winding, Covers}
use Rattle.lvl_grid.specs.declared.part.Part.{Part}
use Rattle.lvl_grid.specs.declared.part.Part.TheVariants.{Left, Right, Within}
use Rattle.lvl_grid.specs.Clip.{clamp, clamped, IsInWindow, put, IsIn, IsBeyond}
use Rattle.lvl_grid.proofs.Turning.{count-cons}
use Rattle.lvl_grid.proofs.Sides.{side, winding_by_side, winding_left, winding_below, level_off}
use Rattle.lvl_grid.proofs.Placing.{map-map, straight_ring}

-- a clamped point is right of one of the window's squares exactly if the point is
clamp_right : (x0 x1 a x : ℤ) → x0 ≤ℤ x → x <ℤ x1 → int_lt x (clamp x0 x1 a) ≡ int_lt x a
clamp_right x0 x1 a x h g = grind (arith, ints)

-- and not above it exactly if the point isn't
clamp_low : (y0 y1 a y : ℤ) → y0 ≤ℤ y → y <ℤ y1 → int_le (clamp y0 y1 a) y ≡ int_le a y
clamp_low y0 y1 a y h g = grind (arith, ints)

min_right : (x1 a x : ℤ) → x <ℤ x1 → int_lt x (int_min a x1) ≡ int_lt x a
min_right x1 a x h = grind (arith, ints)

max_right : (x0 a x : ℤ) → x0 ≤ℤ x → int_lt x (int_max a x0) ≡ int_lt x a
max_right x0 a x h = grind (arith, ints)

side_put : (part : Part) (s : Square) → IsIn part s → (p : Point) → side s (put part p) ≡ side s p
side_put (Left at) s h p = rw (min_right at p.x s.x h) refl
side_put (Right at) s h p = rw (max_right at p.x s.x h) refl
side_put (Within w) s h p =
    rw (clamp_right w.x0 w.x1 p.x s.x h.x_from h.x_below, clamp_low w.y0 w.y1 p.y s.y h.y_from h.y_below) refl

pub put_winds_inside : (part : Part) (ps : List Point) (s : Square) → IsIn part s
    → winding (map (put part) ps) s ≡ winding ps s
put_winds_inside part ps s h =
    winding_by_side s (map (put part) ps)
    ∙ (rw (map-map (put part) (side s) (side s) ps (side_put part s h)) refl ∙ sym (winding_by_side s ps))

-- a path goes up as often as down if each of its edges does
level_path : (s : Square) (P : Point → Type 0) → ((p q : Point) → P p → P q → goes_up s (p, q) ≡ goes_down s (p, q))
    → (p : Point) (ps : List Point) → P p → All P ps
    → count_by (goes_up s) (path_edges p ps) ≡ count_by (goes_down s) (path_edges p ps)
level_path s P none p [] e h = refl
level_path s P none p (q ∷ qs) e h =
    let here : P q = All-head P q qs h in
    let bit : Bool → ℕ = λ t. cond t 1 0 in
    let same : bit (goes_up s (p, q)) ≡ bit (goes_down s (p, q)) = ap bit (none p q e here) in
    omega (
      arith,
      same,
      count-cons (goes_up s) (p, q) (path_edges q qs),
      count-cons (goes_down s) (p, q) (path_edges q qs),
      level_path s P none q qs here (All-tail P q qs h),
    )

last_meets : (P : Point → Type 0) (p : Point) (ps : List Point) → All P (p ∷ ps) → P (last_or p ps)
last_meets P p [] h = All-head P p [] h
last_meets P p (q ∷ qs) h = last_meets P q qs (All-tail P p (q ∷ qs) h)

level_winding : (s : Square) (P : Point → Type 0) → ((p q : Point) → P p → P q → goes_up s (p, q) ≡ goes_down s (p, q))
    → (ps : List Point) → All P ps → winding ps s ≡ pos 0
level_winding s P none [] h = refl
level_winding s P none (p ∷ ps) h = level_off _ _ (level_path s P none (last_or p ps) (p ∷ ps) (last_meets P p ps h) h)

-- nothing right of every vertex is covered
pub winding_right : (s : Square) (ps : List Point) → All (λ q. int_lt s.x q.x ≡ false) ps → winding ps s ≡ pos 0
winding_right s ps h = level_winding s (λ q. int_lt s.x q.x ≡ false) (λ p q e f. rw e refl) ps h

none_above : (s : Square) (p q : Point) → int_lt s.y p.y ≡ false → int_lt s.y q.y ≡ false
    → goes_up s (p, q) ≡ goes_down s (p, q)
none_above s p q e f = grind arith

-- nothing above every vertex is covered
pub winding_above : (s : Square) (ps : List Point) → All (λ q. int_lt s.y q.y ≡ false) ps → winding ps s ≡ pos 0
winding_above s ps h = level_winding s (λ q. int_lt s.y q.y ≡ false) (none_above s) ps h

all_map : {A B : Type 0} (P : B → Type 0) (f : A → B) → ((a : A) → P (f a)) → (as' : List A) → All P (map f as')
all_map P f h [] = All-nil P
all_map P f h (a ∷ rest) = All-cons P (f a) (map f rest) (h a) (all_map P f h rest)

above_low : (low high a z : ℤ) → z <ℤ low → int_lt z (clamp low high a) ≡ true
above_low low high a z h = grind (arith, ints)

not_above : (low high a z : ℤ) → low ≤ℤ z → high ≤ℤ z → int_lt z (clamp low high a) ≡ false
not_above low high a z h g = grind (arith, ints)

not_below : (low high a z : ℤ) → z <ℤ low → int_le (clamp low high a) z ≡ false
not_below low high a z h = grind (arith, ints)

min_not_above : (x1 a x : ℤ) → x1 ≤ℤ x → int_lt x (int_min a x1) ≡ false
min_not_above x1 a x h = grind (arith, ints)

max_above : (x0 a x : ℤ) → x <ℤ x0 → int_lt x (int_max a x0) ≡ true
max_above x0 a x h = grind (arith, ints)

-- a square is within the window, or the clamped ring doesn't wind round it
within_or_level : (w : Window) (ps : List Point) (s : Square)
    → IsInWindow w s ⊎ (winding (map (clamped w) ps) s ≡ pos 0)
within_or_level w ps s =
    by_lt_z s.x w.x0 (λ a. inr (winding_left s _
    (all_map (λ q. int_lt s.x q.x ≡ true) (clamped w) (λ p. above_low w.x0 w.x1 p.x s.x a) ps)))
    (λ a. by_lt_z s.x w.x1
    (λ b. by_lt_z s.y w.y0 (λ c. inr (winding_below s _
    (all_map (λ q. int_le q.y s.y ≡ false) (clamped w) (λ p. not_below w.y0 w.y1 p.y s.y c) ps)))
    (λ c. by_lt_z s.y w.y1 (λ d. inl (record { x_from = a; x_below = b; y_from = c; y_below = d }))
    (λ d. inr (winding_above s _
    (all_map (λ q. int_lt s.y q.y ≡ false) (clamped w) (λ p. not_above w.y0 w.y1 p.y s.y c d) ps)))))
    (λ b. inr (winding_right s _
    (all_map (λ q. int_lt s.x q.x ≡ false) (clamped w) (λ p. not_above w.x0 w.x1 p.x s.x a b) ps))))

-- the same for a part
in_or_level : (part : Part) (ps : List Point) (s : Square) → IsIn part s ⊎ (winding (map (put part) ps) s ≡ pos 0)
in_or_level (Left at) ps s =
    by_lt_z s.x at (λ h. inl h) (λ h. inr (winding_right s _
    (all_map (λ q. int_lt s.x q.x ≡ false) (put (Left at)) (λ p. min_not_above at p.x s.x h) ps)))
in_or_level (Right at) ps s =
    by_lt_z s.x at
    (λ h. inr (winding_left s _
    (all_map (λ q. int_lt s.x q.x ≡ true) (put (Right at)) (λ p. max_above at p.x s.x h) ps))) (λ h. inl h)
in_or_level (Within w) ps s = within_or_level w ps s

pub put_winds_outside : (part : Part) (ps : List Point) (s : Square) → ¬ IsIn part s
    → winding (map (put part) ps) s ≡ pos 0
put_winds_outside part ps s out = elim (in_or_level part ps s) [ inl h ↦ absurd (out h) | inr e ↦ e ]

-- a ring clamped to a part covers exactly the squares of the part that the ring covers
pub covers_put : (part : Part) (ps : List Point) (s : Square)
    → Covers (map (put part) ps) s ↔ (IsIn part s × Covers ps s)
covers_put part ps s = (
  λ c. elim (in_or_level part ps s) [ inl h ↦ (h, λ e. c (put_winds_inside part ps s h ∙ e)) | inr e ↦ absurd (c e) ],
  λ b e. b.1 (sym (put_winds_inside part ps s b.0) ∙ e),
)

put_straight : (part : Part) (p q : Point) → IsStraight (p, q) → IsStraight (put part p, put part q)
put_straight (Left at) p q (inl e) = inl (ap (λ a. int_min a at) e)
put_straight (Left at) p q (inr e) = inr e
put_straight (Right at) p q (inl e) = inl (ap (λ a. int_max a at) e)
put_straight (Right at) p q (inr e) = inr e
put_straight (Within w) p q (inl e) = inl (ap (clamp w.x0 w.x1) e)
put_straight (Within w) p q (inr e) = inr (ap (clamp w.y0 w.y1) e)

pub IsRing-put : (part : Part) (ps : List Point) → IsRing ps → IsRing (map (put part) ps)
IsRing-put part ps h = record {
  enough = rw length-map h.enough;
  straight = straight_ring (put part) (put_straight part) ps h.straight;
}

right_of_all : (x a z : ℤ) → x <ℤ a → a ≤ℤ z → int_lt x z ≡ true
right_of_all x a z h g = grind (arith, ints)

left_of_all : (x a z : ℤ) → a ≤ℤ x → z ≤ℤ a → int_lt x z ≡ false
left_of_all x a z h g = grind (arith, ints)

-- a ring whose points are all on the border of a part or beyond it covers no square of the part
pub beyond_uncovered : (part : Part) (ps : List Point) (s : Square) → All (IsBeyond part) ps → IsIn part s
    → winding ps s ≡ pos 0
beyond_uncovered (Left at) ps s h i =
    winding_left s ps
    (All-weaker (IsBeyond (Left at)) (λ q. int_lt s.x q.x ≡ true) (λ q g. right_of_all s.x at q.x i g) ps h)
beyond_uncovered (Right at) ps s h i =
    winding_right s ps
    (All-weaker (IsBeyond (Right at)) (λ q. int_lt s.x q.x ≡ false) (λ q g. left_of_all s.x at q.x i g) ps h)
beyond_uncovered (Within w) [] s h i = refl
beyond_uncovered (Within w) (p ∷ ps) s h i = absurd (All-head (IsBeyond (Within w)) p ps h)

-- a ring whose points clamping doesn't change covers only squares of the part
pub kept_covers : (part : Part) (ps : List Point) (s : Square) → map (put part) ps ≡ ps
    → Covers ps s ↔ (IsIn part s × Covers ps s)
kept_covers part ps s e =
    subst (λ (qs : List Point). Covers qs s ↔ (IsIn part s × Covers ps s)) e (covers_put part ps s)
