-- The squares that a rectangle covers.
use Rattle.std.proofs.Common.{◌≡◌, ◌≢◌, ℤ, pos, ◌-ℤ◌, ◌<ℤ◌, ◌≤ℤ◌, Bool, true, false, not, ◌&&◌, List, [], ◌∷◌, map}
use Rattle.std.proofs.Common.{refl, ◌↔◌, ◌∙◌, sym, ap, arith, int_lt, int_le, count_by, IsTrue}
use Rattle.std.proofs.Common.{◌≤◌, ◌<◌, length, get_or}
use Rattle.std.specs.Int.{int_max, int_min}
use Rattle.std.proofs.lemmas.Int.{ints}
use Rattle.lvl_grid.specs.declared.point.Point.{Point}
use Rattle.lvl_grid.specs.declared.point.Square.{Square}
use Rattle.lvl_grid.specs.declared.point.Window.{Window}
use Rattle.lvl_grid.specs.Clip.{IsInWindow}
use Rattle.lvl_grid.specs.Winding.{Edge, edges, winding, goes_up, goes_down, Covers}
use Rattle.lvl_grid.proofs.Anyone.{untrue}
use Rattle.lvl_grid.proofs.Sides.{side, winding_by_side}
use Rattle.lvl_grid.proofs.Paths.{origin}
use Rattle.lvl_grid.proofs.Turning.{count-cons}

abbrev differ : Bool → Bool → Bool
differ true b = not b
differ false b = b

-- on which sides of a square the corners are, if the first edge is vertical
abbrev corners : Bool → Bool → Bool → Bool → List (Bool × Bool)
corners x z u v = (x, u) ∷ (x, v) ∷ (z, v) ∷ (z, u) ∷ []

abbrev up_by_side : (Bool × Bool) × (Bool × Bool) → Bool
up_by_side e = e.0.0 && (e.0.1 && not e.1.1)

abbrev down_by_side : (Bool × Bool) × (Bool × Bool) → Bool
down_by_side e = e.0.0 && (e.1.1 && not e.0.1)

abbrev winds : List (Bool × Bool) → ℤ
winds sides = pos (count_by up_by_side (edges sides)) -ℤ pos (count_by down_by_side (edges sides))

winds_by_sides : (x z u v : Bool) → (winds (corners x z u v) ≢ pos 0) ↔ IsTrue (differ x z && differ u v)
winds_by_sides true true true true = (λ n. absurd (n refl), λ h. absurd (untrue h))
winds_by_sides true true true false = (λ n. absurd (n refl), λ h. absurd (untrue h))
winds_by_sides true true false true = (λ n. absurd (n refl), λ h. absurd (untrue h))
winds_by_sides true true false false = (λ n. absurd (n refl), λ h. absurd (untrue h))
winds_by_sides true false true true = (λ n. absurd (n refl), λ h. absurd (untrue h))
winds_by_sides true false true false = (λ n. cc, λ h e. omega (arith, ints, e))
winds_by_sides true false false true = (λ n. cc, λ h e. omega (arith, ints, e))
winds_by_sides true false false false = (λ n. absurd (n refl), λ h. absurd (untrue h))
winds_by_sides false true true true = (λ n. absurd (n refl), λ h. absurd (untrue h))
winds_by_sides false true true false = (λ n. cc, λ h e. omega (arith, ints, e))
winds_by_sides false true false true = (λ n. cc, λ h e. omega (arith, ints, e))
winds_by_sides false true false false = (λ n. absurd (n refl), λ h. absurd (untrue h))
winds_by_sides false false true true = (λ n. absurd (n refl), λ h. absurd (untrue h))
winds_by_sides false false true false = (λ n. absurd (n refl), λ h. absurd (untrue h))
winds_by_sides false false false true = (λ n. absurd (n refl), λ h. absurd (untrue h))
winds_by_sides false false false false = (λ n. absurd (n refl), λ h. absurd (untrue h))

-- a square is between the sides of a rectangle exactly if two opposite corners are on different sides of it
between : (a c z : ℤ) → IsTrue (differ (int_lt z a) (int_lt z c)) ↔ ((int_min a c ≤ℤ z) × (z <ℤ int_max a c))
between a c z = (λ h. (grind (arith, ints), grind (arith, ints)), λ h. grind (arith, ints))

above : (a c z : ℤ) → IsTrue (differ (int_le a z) (int_le c z)) ↔ ((int_min a c ≤ℤ z) × (z <ℤ int_max a c))
above a c z = (λ h. (grind (arith, ints), grind (arith, ints)), λ h. grind (arith, ints))

both_true : (p q : Bool) → IsTrue (p && q) ↔ (IsTrue p × IsTrue q)
both_true true q = (λ h. (cc, h), λ h. h.1)
both_true false q = (λ h. absurd (untrue h), λ h. absurd (untrue h.0))

sides_are : (a b c d : Point) (s : Square) → b.x ≡ a.x → b.y ≡ c.y → d.x ≡ c.x → d.y ≡ a.y
    → map (side s) (a ∷ b ∷ c ∷ d ∷ [])
    ≡ corners (int_lt s.x a.x) (int_lt s.x c.x) (int_le a.y s.y) (int_le c.y s.y)
sides_are a b c d s left top right bottom = rw (left, top, right, bottom) refl

-- four points of a rectangle whose first edge is vertical cover the squares between them
pub covers_four : (a b c d : Point) (w : Window) → b.x ≡ a.x → b.y ≡ c.y → d.x ≡ c.x → d.y ≡ a.y
    → w.x0 ≡ int_min a.x c.x → w.y0 ≡ int_min a.y c.y → w.x1 ≡ int_max a.x c.x → w.y1 ≡ int_max a.y c.y
    → (s : Square) → Covers (a ∷ b ∷ c ∷ d ∷ []) s ↔ IsInWindow w s
covers_four a b c d w left top right bottom x0 y0 x1 y1 s =
    let x : Bool = int_lt s.x a.x in
    let z : Bool = int_lt s.x c.x in
    let u : Bool = int_le a.y s.y in
    let v : Bool = int_le c.y s.y in
    let same : winding (a ∷ b ∷ c ∷ d ∷ []) s ≡ winds (corners x z u v) =
    winding_by_side s (a ∷ b ∷ c ∷ d ∷ []) ∙ ap winds (sides_are a b c d s left top right bottom) in
    let turns = winds_by_sides x z u v in
    let split = both_true (differ x z) (differ u v) in
    let across = between a.x c.x s.x in
    let up = above a.y c.y s.y in (
      λ n.
          let h = split.0 (turns.0 (λ e. n (same ∙ e))) in
          let i = across.0 h.0 in
          let j = up.0 h.1 in
          record {
            x_from = rw x0 i.0;
            x_below = rw x1 i.1;
            y_from = rw y0 j.0;
            y_below = rw y1 j.1;
          },
      λ w' e.
          let i = across.1 (rw x0 at w'.x_from, rw x1 at w'.x_below) in
          let j = up.1 (rw y0 at w'.y_from, rw y1 at w'.y_below) in
          turns.1 (split.1 (i, j)) (sym same ∙ e),
    )

count_round : (f : Edge → Bool) (a b c d : Edge)
    → count_by f (a ∷ b ∷ c ∷ d ∷ []) ≡ count_by f (b ∷ c ∷ d ∷ a ∷ [])
count_round f a b c d =
    omega (
      arith,
      count-cons f a (b ∷ c ∷ d ∷ []),
      count-cons f b (c ∷ d ∷ []),
      count-cons f c (d ∷ []),
      count-cons f d [],
      count-cons f b (c ∷ d ∷ a ∷ []),
      count-cons f c (d ∷ a ∷ []),
      count-cons f d (a ∷ []),
      count-cons f a [],
    )

-- four points cover the same squares with any of them as the first
pub covers_round : (a b c d : Point) (s : Square)
    → winding (a ∷ b ∷ c ∷ d ∷ []) s ≡ winding (b ∷ c ∷ d ∷ a ∷ []) s
covers_round a b c d s =
    rw (count_round (goes_up s) (d, a) (a, b) (b, c) (c, d), count_round (goes_down s) (d, a) (a, b) (b, c) (c, d)) refl

-- the points of a list of four
pub four_points : (ps : List Point) → 4 ≤ length ps → length ps < 5
    → ps ≡ get_or ps 0 origin ∷ get_or ps 1 origin ∷ get_or ps 2 origin ∷ get_or ps 3 origin ∷ []
four_points [] h k = absurd (omega (arith, h))
four_points (a ∷ []) h k = absurd (omega (arith, h))
four_points (a ∷ b ∷ []) h k = absurd (omega (arith, h))
four_points (a ∷ b ∷ c ∷ []) h k = absurd (omega (arith, h))
four_points (a ∷ b ∷ c ∷ d ∷ []) h k = refl
four_points (a ∷ b ∷ c ∷ d ∷ e ∷ ps) h k = absurd (omega (arith, k))
