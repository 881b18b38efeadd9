-- The squares of a window, part by part.
use Rattle.std.proofs.Common.{◌↔◌, ◌⊎◌, inl, inr, Option, Some, None, ℤ, ◌<ℤ◌, ◌≤ℤ◌}
use Rattle.std.proofs.Common.{int_lt, arith, zero, pos, negsuc, ◌-ℤ◌, ◌<◌}
use Rattle.std.specs.Prelude.{IfNone, IfSome}
use Rattle.std.specs.Int.{int_min, int_max}
use Rattle.std.proofs.lemmas.Int.{ints, clamps}
use Rattle.std.proofs.lemmas.Bool.{cases_Bool}
use Rattle.lvl_grid.specs.declared.point.Square.{Square}
use Rattle.lvl_grid.specs.declared.point.Window.{Window}
use Rattle.lvl_grid.specs.Clip.{IsInWindow}
use Rattle.lvl_names.specs.declared.layer.Layer.{Layer}
use Rattle.lvl_columns.specs.Windows.{IsShown}
use Rattle.lvl_compare.specs.Tops.{Draws, DrawSame, IsFirstDifference}
use Rattle.lvl_compare.specs.declared.groups.Span.{Span}
use Rattle.lvl_compare.specs.inside.Groups.{on}
use Rattle.lvl_compare.specs.inside.Strips.{AreHalves, Difference, IsImproved, rows_to, up}
use Rattle.lvl_compare.specs.inside.Strips.{seen_of}
use Rattle.lvl_compare.proofs.Finding.{below, improved_more, not_below}

-- a square of the rows up to one is in the window, and one of the window is in these rows or above
pub in_rows : (w : Window) (y : ℤ) (q : Square) → IsInWindow (rows_to y w) q → IsInWindow w q
in_rows w y q h = record {
  x_from = h.x_from;
  x_below = h.x_below;
  y_from = h.y_from;
  y_below = omega (arith, ints, clamps, h.y_below);
}

pub rows_or_above : (w : Window) (y : ℤ) (q : Square) → IsInWindow w q → IsInWindow (rows_to y w) q ⊎ (y <ℤ q.y)
rows_or_above w y q h =
    elim (cases_Bool (int_lt y q.y)) [
      | inl above ↦ inr (below y q.y above)
      | inr not ↦
          inl (record {
            x_from = h.x_from;
            x_below = h.x_below;
            y_from = h.y_from;
            y_below = omega (arith, ints, clamps, h.y_below, not_below y q.y not);
          })
    ]

-- the window that has the squares of both
abbrev pub hull : Window → Window → Window
hull v w = record {
  x0 = int_min v.x0 w.x0;
  y0 = int_min v.y0 w.y0;
  x1 = int_max v.x1 w.x1;
  y1 = int_max v.y1 w.y1;
}

pub hull_first : (v w : Window) (q : Square) → IsInWindow v q → IsInWindow (hull v w) q
hull_first v w q h = record {
  x_from = omega (arith, ints, clamps, h.x_from);
  x_below = omega (arith, ints, clamps, h.x_below);
  y_from = omega (arith, ints, clamps, h.y_from);
  y_below = omega (arith, ints, clamps, h.y_below);
}

pub hull_second : (v w : Window) (q : Square) → IsInWindow w q → IsInWindow (hull v w) q
hull_second v w q h = record {
  x_from = omega (arith, ints, clamps, h.x_from);
  x_below = omega (arith, ints, clamps, h.x_below);
  y_from = omega (arith, ints, clamps, h.y_from);
  y_below = omega (arith, ints, clamps, h.y_below);
}

-- neither layout draws a square outside of the part
nowhere_else : (a b : Draws) (Seen P : Square → Type 0) → ((l : Layer) (q : Square) → Seen q → a l q → P q)
    → ((l : Layer) (q : Square) → Seen q → b l q → P q) → (l : Layer) (q : Square) → Seen q
    → (P q → a l q ↔ b l q) → a l q ↔ b l q
nowhere_else a b Seen P ours theirs l q seen same =
    (λ x. (same (ours l q seen x)).0 x, λ y. (same (theirs l q seen y)).1 y)

pub found_same : (a b : Draws) (Seen P : Square → Type 0) (found : Option Difference)
    → ((l : Layer) (q : Square) → Seen q → a l q → P q) → ((l : Layer) (q : Square) → Seen q → b l q → P q)
    → IfNone found (DrawSame P a b) → IfNone found (DrawSame Seen a b)
found_same a b Seen P None ours theirs h = λ l q seen. nowhere_else a b Seen P ours theirs l q seen (h l q)
found_same a b Seen P (Some at) ours theirs h = tt

pub found_apart : (a b : Draws) (Seen P : Square → Type 0) (found : Option Difference) → ((q : Square) → P q → Seen q)
    → ((l : Layer) (q : Square) → Seen q → a l q → P q) → ((l : Layer) (q : Square) → Seen q → b l q → P q)
    → IfSome found (λ at. IsFirstDifference P a b at.0 at.1 at.2)
    → IfSome found (λ at. IsFirstDifference Seen a b at.0 at.1 at.2)
found_apart a b Seen P None shown ours theirs h = tt
found_apart a b Seen P (Some at) shown ours theirs h = record {
  seen = shown at.1 h.seen;
  alone = h.alone;
  least_layer = λ l before q seen.
      nowhere_else a b Seen P ours theirs l q seen (λ in'. h.least_layer l before q in');
  least_square = λ q seen before.
      nowhere_else a b Seen P ours theirs at.0 q seen (λ in'. h.least_square q in' before);
}

up_rises : (a b : ℤ) → pos zero ≤ℤ a → a <ℤ b → up a < up b
up_rises (pos m) (pos n) from less = omega (arith, ints, less)
up_rises (pos m) (negsuc n) from less = absurd (omega (arith, ints, less))
up_rises (negsuc m) b from less = absurd (omega (arith, ints, from))

-- a window is cut at an abscissa or an ordinate
pub cut_columns : (w : Window) (x : ℤ) → w.x0 <ℤ x → x <ℤ w.x1
    → AreHalves w (record { x0 = w.x0; y0 = w.y0; x1 = x; y1 = w.y1 }) (record { x0 = x; y0 = w.y0; x1 = w.x1; y1 = w.y1 })
cut_columns w x from to =
    let width : ℤ = w.x1 -ℤ w.x0 in
    let left : up (x -ℤ w.x0) < up width = up_rises (x -ℤ w.x0) width (omega (arith, ints, from)) (omega (arith, ints, to)) in
    let right : up (w.x1 -ℤ x) < up width = up_rises (w.x1 -ℤ x) width (omega (arith, ints, to)) (omega (arith, ints, from)) in
    record {
      first = λ q h. record {
        x_from = h.x_from;
        x_below = omega (arith, ints, h.x_below, to);
        y_from = h.y_from;
        y_below = h.y_below;
      };
      second = λ q h. record {
        x_from = omega (arith, ints, h.x_from, from);
        x_below = h.x_below;
        y_from = h.y_from;
        y_below = h.y_below;
      };
      all = λ q h.
          elim (cases_Bool (int_lt q.x x)) [
            | inl lt ↦
                inl (record { x_from = h.x_from; x_below = below q.x x lt; y_from = h.y_from; y_below = h.y_below })
            | inr ge ↦
                inr (record { x_from = not_below q.x x ge; x_below = h.x_below; y_from = h.y_from; y_below = h.y_below })
          ];
      first_less = omega (arith, left);
      second_less = omega (arith, right);
    }

pub cut_rows : (w : Window) (y : ℤ) → w.y0 <ℤ y → y <ℤ w.y1
    → AreHalves w (record { x0 = w.x0; y0 = w.y0; x1 = w.x1; y1 = y }) (record { x0 = w.x0; y0 = y; x1 = w.x1; y1 = w.y1 })
cut_rows w y from to =
    let height : ℤ = w.y1 -ℤ w.y0 in
    let low : up (y -ℤ w.y0) < up height = up_rises (y -ℤ w.y0) height (omega (arith, ints, from)) (omega (arith, ints, to)) in
    let high : up (w.y1 -ℤ y) < up height = up_rises (w.y1 -ℤ y) height (omega (arith, ints, to)) (omega (arith, ints, from)) in
    record {
      first = λ q h. record {
        x_from = h.x_from;
        x_below = h.x_below;
        y_from = h.y_from;
        y_below = omega (arith, ints, h.y_below, to);
      };
      second = λ q h. record {
        x_from = h.x_from;
        x_below = h.x_below;
        y_from = omega (arith, ints, h.y_from, from);
        y_below = h.y_below;
      };
      all = λ q h.
          elim (cases_Bool (int_lt q.y y)) [
            | inl lt ↦
                inl (record { x_from = h.x_from; x_below = h.x_below; y_from = h.y_from; y_below = below q.y y lt })
            | inr ge ↦
                inr (record { x_from = h.x_from; x_below = h.x_below; y_from = not_below q.y y ge; y_below = h.y_below })
          ];
      first_less = omega (arith, low);
      second_less = omega (arith, high);
    }

-- one half after the other
pub halves_improved : (a b : Draws) (span : Span) (w low high : Window) (known found last : Option Difference)
    → AreHalves w low high → IsImproved a b (on span (IsInWindow low)) known found
    → IsImproved a b (on span (IsInWindow high)) found last → IsImproved a b (on span (IsInWindow w)) known last
halves_improved a b span w low high known found last cut =
    improved_more a b (on span (IsInWindow low)) (on span (IsInWindow high)) (on span (IsInWindow w)) known found last
    (λ l q h. (h.0, cut.first q h.1)) (λ l q h. (h.0, cut.second q h.1))
    (λ l q h. elim (cut.all q h.1) [ inl in' ↦ inl (h.0, in') | inr in' ↦ inr (h.0, in') ])

-- the intersection with the optional window has exactly those squares of the window that are compared
pub seen_shown : (v : Option Window) (w : Window) (q : Square) → IsInWindow (seen_of v w) q → IsShown v q
seen_shown None w q h = tt
seen_shown (Some v) w q h = record {
  x_from = omega (arith, ints, clamps, h.x_from);
  x_below = omega (arith, ints, clamps, h.x_below);
  y_from = omega (arith, ints, clamps, h.y_from);
  y_below = omega (arith, ints, clamps, h.y_below);
}

pub shown_seen : (v : Option Window) (w : Window) (q : Square) → IsShown v q → IsInWindow w q
    → IsInWindow (seen_of v w) q
shown_seen None w q seen h = h
shown_seen (Some v) w q seen h = record {
  x_from = omega (arith, ints, clamps, h.x_from, seen.x_from);
  x_below = omega (arith, ints, clamps, h.x_below, seen.x_below);
  y_from = omega (arith, ints, clamps, h.y_from, seen.y_from);
  y_below = omega (arith, ints, clamps, h.y_below, seen.y_below);
}
