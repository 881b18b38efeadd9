-- The first difference of two layouts, window by window.
use Rattle.std.proofs.Common.{◌≡◌, ◌++◌, ◌∷◌, [], List, Option, Some, None, inl, inr, refl, sym, subst, arith}
use Rattle.std.specs.Prelude.{IfNone, IfSome}
use Rattle.std.proofs.lemmas.Int.{ints, clamps}
use Rattle.lvl_grid.specs.declared.point.Square.{Square}
use Rattle.lvl_grid.specs.declared.point.Window.{Window}
use Rattle.lvl_grid.specs.Clip.{IsInWindow}
use Rattle.lvl_grid.proofs.Anyone.{Any-head, Any-left, Any-nil, Any-push, Any-right, Any-sides}
use Rattle.lvl_names.specs.declared.layer.Layer.{Layer}
use Rattle.lvl_view.specs.Moved.{IsMoved}
use Rattle.lvl_view.specs.declared.map.LayerPair.{LayerPair}
use Rattle.lvl_columns.specs.Windows.{IsShown}
use Rattle.lvl_compare.specs.Parts.{IsSeenIn}
use Rattle.lvl_compare.specs.Tops.{Draws, DrawSame, IsFirstDifference}
use Rattle.lvl_compare.specs.declared.groups.Span.{Span}
use Rattle.lvl_compare.specs.inside.Groups.{on}
use Rattle.lvl_compare.specs.inside.Strips.{Difference, IsFoundIn, IsImproved, everywhere, seen_of}
use Rattle.lvl_compare.proofs.Finding.{improved_more, improved_none}
use Rattle.lvl_compare.proofs.InStrips.{hull, hull_first, hull_second, seen_shown, shown_seen}

-- squares of the intersection with a window are in the window
pub seen_within : (v : Option Window) (w : Window) (q : Square) → IsInWindow (seen_of v w) q → IsInWindow w q
seen_within None w q h = h
seen_within (Some v) w q h = record {
  x_from = omega (arith, ints, clamps, h.x_from);
  x_below = omega (arith, ints, clamps, h.x_below);
  y_from = omega (arith, ints, clamps, h.y_from);
  y_below = omega (arith, ints, clamps, h.y_below);
}

-- without windows no square is compared
pub none_seen : (a b : Draws) (span : Span) (v : Option Window) (known : Option Difference)
    → IsImproved a b (on span (IsSeenIn v [])) known known
none_seen a b span v known =
    improved_none a b (on span (IsSeenIn v [])) known
    (λ l q seen. Any-nil (λ w. IsInWindow w q) seen.1.1)

-- with one more window
pub window_more : (a b : Draws) (span : Span) (v : Option Window) (ws : List Window) (w part : Window)
    (known found last : Option Difference) → part ≡ seen_of v w → IsImproved a b (on span (IsSeenIn v ws)) known found
    → IsImproved a b (on span (IsInWindow part)) found last
    → IsImproved a b (on span (IsSeenIn v (ws ++ w ∷ []))) known last
window_more a b span v ws w part known found last is =
    improved_more a b (on span (IsSeenIn v ws)) (on span (IsInWindow part)) (on span (IsSeenIn v (ws ++ w ∷ []))) known
    found last (λ l q s. (s.0, (s.1.0, Any-left (λ u. IsInWindow u q) ws (w ∷ []) s.1.1)))
    (λ l q h.
    let seen : IsInWindow (seen_of v w) q = subst (λ (u : Window). IsInWindow u q) is h.1 in
    (h.0, (seen_shown v w q seen, (Any-push (λ u. IsInWindow u q) ws w).1 (inr (seen_within v w q seen)))))
    (λ l q s.
    elim ((Any-push (λ u. IsInWindow u q) ws w).0 s.1.1) [
      | inl earlier ↦ inl (s.0, (s.1.0, earlier))
      | inr this ↦ inr (s.0, subst (λ (u : Window). IsInWindow u q) (sym is) (shown_seen v w q s.1.0 this))
    ])

-- with more windows
pub windows_more : (a b : Draws) (span : Span) (v : Option Window) (ws more : List Window)
    (known found last : Option Difference) → IsImproved a b (on span (IsSeenIn v ws)) known found
    → IsImproved a b (on span (IsSeenIn v more)) found last
    → IsImproved a b (on span (IsSeenIn v (ws ++ more))) known last
windows_more a b span v ws more known found last =
    improved_more a b (on span (IsSeenIn v ws)) (on span (IsSeenIn v more)) (on span (IsSeenIn v (ws ++ more))) known
    found last (λ l q s. (s.0, (s.1.0, Any-left (λ u. IsInWindow u q) ws more s.1.1)))
    (λ l q s. (s.0, (s.1.0, Any-right (λ u. IsInWindow u q) ws more s.1.1)))
    (λ l q s.
    elim (Any-sides (λ u. IsInWindow u q) ws more s.1.1)
    [ inl earlier ↦ inl (s.0, (s.1.0, earlier)) | inr later ↦ inr (s.0, (s.1.0, later)) ])

-- what is found among some squares is the first difference, or there is none
pub part_same : (a b : Draws) (part : Square → Type 0) (found : Option Difference)
    → IsFoundIn a b (everywhere part) found
    → IfNone found (DrawSame part a b)
part_same a b part None h = h
part_same a b part (Some at) h = tt

pub part_apart : (a b : Draws) (part : Square → Type 0) (found : Option Difference)
    → IsFoundIn a b (everywhere part) found
    → IfSome found (λ at. IsFirstDifference part a b at.0 at.1 at.2)
part_apart a b part None h = tt
part_apart a b part (Some at) h = record {
  seen = h.shown;
  alone = h.alone;
  least_layer = λ l before q seen. h.least l q seen (inl before);
  least_square = λ q seen before. h.least at.0 q seen (inr (refl, before));
}

-- the squares that are compared and that either layout draws are in the window of both extents
pub ours_seen : (a : Draws) (v : Option Window) (one two : Window)
    → ((l : Layer) (q : Square) → a l q → IsInWindow one q) → (l : Layer) (q : Square) → IsShown v q → a l q
    → IsSeenIn v (hull one two ∷ []) q
ours_seen a v one two h l q seen drawn =
    (seen, Any-head (λ w. IsInWindow w q) (hull one two) [] (hull_first one two q (h l q drawn)))

pub theirs_seen : (t : Draws) (pairs : List LayerPair) (v : Option Window) (one two : Window)
    → ((l : Layer) (q : Square) → t l q → IsInWindow two q) → (l : Layer) (q : Square) → IsShown v q
    → IsMoved pairs t l q → IsSeenIn v (hull one two ∷ []) q
theirs_seen t pairs v one two h l q seen moved =
    (seen, Any-head (λ w. IsInWindow w q) (hull one two) [] (hull_second one two q (h moved.source q moved.covers)))
