-- The bounds of a list of shifts.
use Rattle.std.proofs.Common.{◌≡◌, ℕ, ◌+◌, ◌<◌, Bool, true, false, cond, int_lt, List, length, map, take, get_or, ℤ}
use Rattle.std.proofs.Common.{◌+ℤ◌, ◌≤ℤ◌, ◌↔◌, All, Contains, Some, sym, ap, ◌∙◌, subst, arith}
use Rattle.std.specs.List.{slice_get}
use Rattle.std.specs.Option.{option_map}
use Rattle.std.specs.Int.{w64, int_min, int_max}
use mir.Val.{SFits}
use Rattle.std.proofs.lemmas.Int.{ints, clamps}
use Rattle.std.proofs.lemmas.List.Elements.{All-contains, All-map, All-more, All-weaker}
use Rattle.std.proofs.lemmas.Option.{slice_get-map}
use Rattle.lvl_grid.specs.declared.point.Point.{Point}
use Rattle.lvl_grid.specs.Turn.{FitsPoint, shifted}
use Rattle.lvl_names.specs.declared.bounded.BoundedList.{BoundedList}
use Rattle.lvl_names.specs.Shifts.{IsBetween}
use Rattle.lvl_names.specs.inside.Keeping.{IsReached, IsBounded}
use Rattle.lvl_names.proofs.Elements.{contains_at}

abbrev abscissa : Point → ℤ
abscissa e = e.x

abbrev ordinate : Point → ℤ
ordinate e = e.y

-- the lesser and the greater of two points, along each axis
abbrev pub least : Point → Point → Point
least p q = record { x = int_min p.x q.x; y = int_min p.y q.y }

abbrev pub greatest : Point → Point → Point
greatest p q = record { x = int_max p.x q.x; y = int_max p.y q.y }

either : (P : ℤ → Type 0) (b : Bool) (x y : ℤ) → P x → P y → P (cond b x y)
either P true x y p q = p
either P false x y p q = q

among : (f : Point → ℤ) (shifts : List Point) (k : ℕ) (e : Point) → slice_get shifts k ≡ Some e
    → Contains (map f shifts) (f e)
among f shifts k e h = contains_at (map f shifts) k (f e) (slice_get-map f shifts k ∙ ap (option_map f) h)

pub reaches_one : (shifts : List Point) (k : ℕ) (e : Point) → slice_get shifts k ≡ Some e → IsReached e e shifts
reaches_one shifts k e h = record {
  left = among abscissa shifts k e h;
  right = among abscissa shifts k e h;
  below = among ordinate shifts k e h;
  above = among ordinate shifts k e h;
}

-- bounds that shifts reach are still reached after they are widened to hold one of the shifts
pub reaches_further : (low high e : Point) (shifts : List Point) → IsReached low high shifts → IsReached e e shifts
    → IsReached (least low e) (greatest high e) shifts
reaches_further low high e shifts r s =
    let xs : ℤ → Type 0 = Contains (map abscissa shifts) in
    let ys : ℤ → Type 0 = Contains (map ordinate shifts) in
    record {
      left = either xs (int_lt e.x low.x) e.x low.x s.left r.left;
      right = either xs (int_lt e.x high.x) high.x e.x r.right s.right;
      below = either ys (int_lt e.y low.y) e.y low.y s.below r.below;
      above = either ys (int_lt e.y high.y) high.y e.y r.above s.above;
    }

-- what is between bounds is between the widened ones
between_wider : (low high e p : Point) → IsBetween low high p → IsBetween (least low e) (greatest high e) p
between_wider low high e p h = record {
  left = omega (arith, ints, clamps, h.left);
  right = omega (arith, ints, clamps, h.right);
  below = omega (arith, ints, clamps, h.below);
  above = omega (arith, ints, clamps, h.above);
}

between_new : (low high e : Point) → IsBetween (least low e) (greatest high e) e
between_new low high e = record {
  left = omega (arith, ints, clamps);
  right = omega (arith, ints, clamps);
  below = omega (arith, ints, clamps);
  above = omega (arith, ints, clamps);
}

-- one more shift
pub between_more : (low high : Point) (shifts : List Point) (k : ℕ) (d e : Point) → k < length shifts
    → get_or shifts k d ≡ e → All (IsBetween low high) (take k shifts)
    → All (IsBetween (least low e) (greatest high e)) (take (k + 1) shifts)
between_more low high shifts k d e lt is h =
    let P : Point → Type 0 = IsBetween (least low e) (greatest high e) in
    All-more P shifts k d lt (All-weaker (IsBetween low high) P (λ p w. between_wider low high e p w) (take k shifts) h)
    (subst P (sym is) (between_new low high e))

fits_along : (t a e b : ℤ) → a ≤ℤ e → e ≤ℤ b → SFits w64 (a +ℤ t) → SFits w64 (b +ℤ t) → SFits w64 (e +ℤ t)
fits_along t a e b h k f g = omega (arith, ints, h, k, f, g)

-- what holds of a coordinate of each shift holds of one that is reached
at_reached : (f : Point → ℤ) (P : ℤ → Type 0) (shifts : List Point) (z : ℤ) → All (λ e. P (f e)) shifts
    → Contains (map f shifts) z → P z
at_reached f P shifts z all there = All-contains P (map f shifts) z (All-map P f shifts all) there

-- all shifts fit after a move exactly if the bounds do
pub bounds_moved : (by : Point) (list : BoundedList) → IsBounded list
    → (FitsPoint (shifted by list.low) × FitsPoint (shifted by list.high))
    ↔ All (λ e. FitsPoint (shifted by e)) list.shifts.items
bounds_moved by list b =
    let P : Point → Type 0 = λ e. FitsPoint (shifted by e) in
    let across : ℤ → Type 0 = λ z. SFits w64 (z +ℤ by.x) in
    let up : ℤ → Type 0 = λ z. SFits w64 (z +ℤ by.y) in
    let shifts : List Point = list.shifts.items in (
      λ f. All-weaker (IsBetween list.low list.high) P (λ e w. record {
        x_fits = fits_along by.x list.low.x e.x list.high.x w.left w.right f.0.x_fits f.1.x_fits;
        y_fits = fits_along by.y list.low.y e.y list.high.y w.below w.above f.0.y_fits f.1.y_fits;
      }) shifts b.between,
      λ all.
          let xs = All-weaker P (λ e. across e.x) (λ e w. w.x_fits) shifts all in
          let ys = All-weaker P (λ e. up e.y) (λ e w. w.y_fits) shifts all in (
            record {
              x_fits = at_reached abscissa across shifts list.low.x xs b.reached.left;
              y_fits = at_reached ordinate up shifts list.low.y ys b.reached.below;
            },
            record {
              x_fits = at_reached abscissa across shifts list.high.x xs b.reached.right;
              y_fits = at_reached ordinate up shifts list.high.y ys b.reached.above;
            },
          ),
    )
